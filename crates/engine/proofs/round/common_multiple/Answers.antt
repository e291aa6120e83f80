use Rattle.std.proofs.Common.{◌≡◌, ℕ, zero, suc, ◌+◌, ◌*◌, ◌%◌, ◌<◌, ◌≤◌, min, max, Some, None, ◌∙◌, inl, inr, ⊎_elim, arith}
use Rattle.engine.specs.Rehearsal.{first_from}
use Rattle.engine.proofs.Multiples.{both_divide, least_found, least_missed, least_of_zero}
use Rattle.engine.proofs.round.common_multiple.Goals as goal

pub returns-then-a-eq0 : goal.returns-then-a-eq0
returns-then-a-eq0 c = least_of_zero 5040 c.args.a c.args.b (⊎_elim (λ e. inl e) (λ e. inr e.1) c.then-a-eq0.either)

module _ (a b step other : ℕ) (larger : step ≡ max a b) (smaller : other ≡ min a b) (some : 0 < step) where
  -- the first times the larger number that the smaller divides
  found : (times : ℕ) → 0 < times → times * step ≤ 5040 → (times * step) % other ≡ 0 → ((j : ℕ) → suc j < times → (step + j * step) % other ≡ 0 → ⊥)
      → Some (times * step) ≡ first_from 5040 1 (both_divide a b)
  found zero h low whole fail = absurd (omega arith)
  found (suc j) h low whole fail = least_found 5040 a b step other larger smaller some j (suc j * step) (omega arith) (omega (arith, low)) whole (λ k l. fail k (omega arith))

  -- the first times that is above the limit
  missed : (times : ℕ) → 0 < times → 5040 < times * step → ((j : ℕ) → suc j < times → (step + j * step) % other ≡ 0 → ⊥) → None ≡ first_from 5040 1 (both_divide a b)
  missed zero h past fail = absurd (omega arith)
  missed (suc j) h past fail = least_missed 5040 a b step other larger smaller some j (omega (arith, past)) (λ k l. fail k (omega arith))

pub returns-then-multiple-gt-MOST_MULTIPLES : goal.returns-then-multiple-gt-MOST_MULTIPLES
returns-then-multiple-gt-MOST_MULTIPLES c =
    missed c.args.a c.args.b c.from-step.result c.from-other.result (c.from-step.ensures ∙ c.max.ensures) (c.from-other.ensures ∙ c.min.ensures)
    (omega (arith, c.from-step.ensures, c.max.ensures, c.if-a-eq0.false)) c.loop-times.times (omega arith) c.if-multiple-gt-MOST_MULTIPLES.true c.loop-times.invariant

pub returns-then-multiple-other-eq0 : goal.returns-then-multiple-other-eq0
returns-then-multiple-other-eq0 c =
    found c.args.a c.args.b c.from-step.result c.from-other.result (c.from-step.ensures ∙ c.max.ensures) (c.from-other.ensures ∙ c.min.ensures)
    (omega (arith, c.from-step.ensures, c.max.ensures, c.if-a-eq0.false)) c.loop-times.times (omega arith) c.if-multiple-gt-MOST_MULTIPLES.false c.if-multiple-other-eq0.true c.loop-times.invariant

pub returns : goal.returns
returns c =
    least_missed 5040 c.args.a c.args.b c.from-step.result c.from-other.result (c.from-step.ensures ∙ c.max.ensures) (c.from-other.ensures ∙ c.min.ensures)
    (omega (arith, c.from-step.ensures, c.max.ensures, c.if-a-eq0.false)) 5040 (omega (arith, c.from-step.ensures, c.max.ensures, c.if-a-eq0.false)) (λ j h. c.loop-times.invariant j (omega (arith, c.loop-times-test.false)))
