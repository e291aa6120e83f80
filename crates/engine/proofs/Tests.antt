-- Tests over rows: the lowest that passes, each that passes. Assumes nothing.
use Rattle.std.proofs.Common.{◌≡◌, ℕ, zero, suc, ◌+◌, ◌<◌, Bool, true, false, cond, Some, None, Option, sym, refl, ap, ◌∙◌, subst, ap₂, ⊎_elim, add-one, arith}
use Rattle.std.proofs.lemmas.Bool.{cases_eq, and_parts}
use Rattle.engine.specs.Cycle.{first_of, lowest}
use Rattle.engine.specs.Rehearsal.{every}

pub some_is_none : {X : Type 0} {x : X} → Some x ≡ None → ⊥
some_is_none e = let z : ◌≡◌ {A = ℕ} 0 1 = cc in omega arith

pub first_none : {X : Type 0} (a b : Option X) → first_of a b ≡ None → (a ≡ None) × (b ≡ None)
first_none None b e = (refl, e)
first_none (Some x) b e = absurd (some_is_none e)

only_if : (b : Bool) (n : ℕ) → cond b (Some n) None ≡ None → b ≡ false
only_if true n e = absurd (some_is_none e)
only_if false n e = refl

-- none passes
pub lowest_none : (n : ℕ) (test : ℕ → Bool) → lowest n test ≡ None → (r : ℕ) → r < n → test r ≡ false
unfolding lowest
lowest_none zero test e r h = absurd (omega arith)
lowest_none (suc n) test e r h =
    let parts = first_none (lowest n test) _ e in
    ⊎_elim
    (λ (same : r ≡ n). ap test same ∙ only_if (test n) n parts.1)
    (λ (apart : r ≡ n → ⊥). lowest_none n test parts.0 r (omega arith))
    (cases_eq r n)

pub every_at : (n : ℕ) (test : ℕ → Bool) → every n test ≡ true → (r : ℕ) → r < n → test r ≡ true
unfolding every
every_at zero test e r h = absurd (omega arith)
every_at (suc n) test e r h =
    let parts = and_parts (every n test) (test n) e in
    ⊎_elim
    (λ (same : r ≡ n). ap test same ∙ parts.1)
    (λ (apart : r ≡ n → ⊥). every_at n test parts.0 r (omega arith))
    (cases_eq r n)

-- the lowest, row by row
pub lowest_skip : (n : ℕ) (test : ℕ → Bool) → lowest n test ≡ None → test n ≡ false → lowest (n + 1) test ≡ None
unfolding lowest
lowest_skip n test none is = ap (λ m. lowest m test) (add-one n) ∙ ap₂ (λ o b. first_of o (cond b (Some n) None)) none is

pub lowest_found : (n r : ℕ) (test : ℕ → Bool) → lowest r test ≡ None → test r ≡ true → r < n → lowest n test ≡ Some r
unfolding lowest
lowest_found zero r test none is h = absurd (omega arith)
lowest_found (suc n) r test none is h =
    ⊎_elim
    (λ (same : r ≡ n).
    ap₂ (λ o b. first_of o (cond b (Some n) None)) (subst (λ m. lowest m test ≡ None) same none) (subst (λ m. test m ≡ true) same is) ∙ ap Some (sym same))
    (λ (apart : r ≡ n → ⊥). ap (λ o. first_of o (cond (test n) (Some n) None)) (lowest_found n r test none is (omega arith)))
    (cases_eq r n)

-- no row passes
pub lowest_nowhere : (n : ℕ) (test : ℕ → Bool) → ((r : ℕ) → r < n → test r ≡ false) → lowest n test ≡ None
unfolding lowest
lowest_nowhere zero test none = refl
lowest_nowhere (suc n) test none = ap₂ (λ o b. first_of o (cond b (Some n) None)) (lowest_nowhere n test (λ r h. none r (omega arith))) (none n (omega arith))
