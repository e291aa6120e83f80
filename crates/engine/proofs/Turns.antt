-- The waits of a table go round whatever is scheduled. Assumes nothing.
use Rattle.std.proofs.Common.{◌≡◌, ℕ, zero, suc, ◌+◌, ◌-◌, ◌*◌, ◌<◌, ◌≤◌, Bool, cond, eqb, Some, None, Option, refl, ap, ◌∙◌, ⊎_elim, suc-mul, zero-add, zero-mul, arith}
use Rattle.std.specs.Option.{option_map}
use Rattle.std.proofs.lemmas.Bool.{cases_lt}
use Rattle.std.proofs.lemmas.Bool.Decides.{nat_tests}
use Rattle.engine.specs.declared.row.Figures.{Figures}
use Rattle.engine.specs.declared.row.Row.{Row}
use Rattle.engine.specs.Rows.{released, closed}
use Rattle.engine.specs.Cycle.{Slots, Rules, release, scheduled, cycle, after}
use Rattle.engine.proofs.Lighter.{released_figures}

-- the wait one cycle on, of a message with the period p
abbrev pub next_wait : ℕ → ℕ → ℕ
next_wait p w = cond (eqb w 0) p w - 1

unfoldable pub wait_after : ℕ → ℕ → ℕ → ℕ
wait_after p zero w = w
wait_after p (suc k) w = wait_after p k (next_wait p w)

-- the waits alone: down to 0, then from the period again
wait_down : (p k w : ℕ) → k ≤ w → wait_after p k w ≡ w - k
unfolding wait_after
wait_down p zero w h = omega arith
wait_down p (suc k) w h =
    let next : next_wait p w ≡ w - 1 = grind (arith, nat_tests) in
    ap (wait_after p k) next ∙ wait_down p k (w - 1) (omega arith) ∙ omega arith

pub wait_add : (p j k w : ℕ) → wait_after p (j + k) w ≡ wait_after p k (wait_after p j w)
unfolding wait_after
wait_add p zero k w = ap (λ n. wait_after p n w) (zero-add k)
wait_add p (suc j) k w =
    let more : suc j + k ≡ suc (j + k) = omega arith in
    ap (λ n. wait_after p n w) more ∙ wait_add p j k (next_wait p w)

wait_one : (p w : ℕ) → wait_after p 1 w ≡ next_wait p w
unfolding wait_after
wait_one p w = refl

-- a wait below the period is back after one period
wait_turn : (p w : ℕ) → w < p → wait_after p p w ≡ w
wait_turn p w h =
    let split : p ≡ w + (1 + (p - w - 1)) = omega arith in
    let start : wait_after p w w ≡ 0 = wait_down p w w (omega arith) ∙ omega arith in
    ap (λ n. wait_after p n w) split ∙ wait_add p w (1 + (p - w - 1)) w ∙ ap (wait_after p (1 + (p - w - 1))) start
    ∙ wait_add p 1 (p - w - 1) 0 ∙ ap (wait_after p (p - w - 1)) (wait_one p 0) ∙ wait_down p (p - w - 1) (p - 1) (omega arith) ∙ omega arith

pub wait_turns : (p m w : ℕ) → w < p → wait_after p (m * p) w ≡ w
unfolding wait_after
wait_turns p zero w h = ap (λ n. wait_after p n w) (zero-mul p)
wait_turns p (suc m) w h =
    let more : suc m * p ≡ p + m * p = omega (arith, suc-mul m p) in
    ap (λ n. wait_after p n w) more ∙ wait_add p p (m * p) w ∙ ap (wait_after p (m * p)) (wait_turn p w h) ∙ wait_turns p m w h

-- once it is below the period it stays there, and it gets there within its own length
pub wait_stays : (p k w : ℕ) → w < p → wait_after p k w < p
unfolding wait_after
wait_stays p zero w h = h
wait_stays p (suc k) w h = wait_stays p k (next_wait p w) (grind (arith, nat_tests))

pub wait_arrives : (p k w : ℕ) → 0 < p → w ≤ k → wait_after p k w < p
unfolding wait_after
wait_arrives p zero w pos h = omega arith
wait_arrives p (suc k) w pos h =
    ⊎_elim
    (λ (some : 0 < w). wait_arrives p k (next_wait p w) pos (grind (arith, nat_tests)))
    (λ (none : w ≤ 0). wait_stays p k (next_wait p w) (grind (arith, nat_tests)))
    (cases_lt 0 w)

-- a slot holds this message at this point of its period
abbrev pub Holds : Figures → ℕ → Option Row → Type 0
Holds f w None = ⊥
Holds f w (Some row) = (row.figures ≡ f) × (row.wait ≡ w)

row_turns : (s : Bool) (row : Row) → (closed s (released row)).wait ≡ next_wait row.figures.period row.wait
row_turns s row = grind (arith, nat_tests)

slot_turns : (f : Figures) (w : ℕ) (s : Bool) (a : Option Row) → Holds f w a → Holds f (next_wait f.period w) (option_map (closed s) (option_map released a))
slot_turns f w s None h = absurd h
slot_turns f w s (Some row) h = (released_figures row ∙ h.0, row_turns s row ∙ (λ i. next_wait (h.0 i).period (h.1 i)))

pub after_holds : (rules : Rules) (f : Figures) (k w : ℕ) (t : Slots) (r : ℕ) → Holds f w (t r) → Holds f (wait_after f.period k w) (after rules k t r)
unfolding after wait_after cycle
after_holds rules f zero w t r h = h
after_holds rules f (suc k) w t r h =
    after_holds rules f k (next_wait f.period w) (cycle rules t) r (slot_turns f w (scheduled rules (release t) r) (t r) h)

pub after_empty : (rules : Rules) (k : ℕ) (t : Slots) (r : ℕ) → t r ≡ None → after rules k t r ≡ None
unfolding after cycle
after_empty rules zero t r h = h
after_empty rules (suc k) t r h = after_empty rules k (cycle rules t) r (ap (λ a. option_map (closed (scheduled rules (release t) r)) (option_map released a)) h)
