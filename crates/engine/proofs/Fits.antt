-- What the passes work out is the cycle. Assumes nothing.
use Rattle.std.proofs.Common.{◌≡◌, ℕ, ◌<◌, ◌≤◌, Bool, true, false, cond, ◌&&◌, leb, List, [], ◌∷◌, length, get_or, Some, None, Option, sym, refl, ap, ◌∙◌, ap₂, inl, inr}
use mathlib.Core.Path.{fun_ext}
use Rattle.std.proofs.lemmas.Bool.{cases_lt}
use Rattle.engine.specs.declared.row.Row.{Row}
use Rattle.engine.specs.Rows.{instance_of, waits}
use Rattle.engine.specs.Cycle.{Slots, Rules, used_and, release, waiter, waiters, fits, scheduled, cycle, late, late_row, lowest, word}
use Rattle.engine.specs.Held.{demand, Demands, within, closed_by, late_by, word_below}
use Rattle.engine.proofs.Waiters.{waiter_place, waiter_at}

and_same : (b x y : Bool) → (b ≡ true → x ≡ y) → (b && x) ≡ (b && y)
and_same true x y same = same refl
and_same false x y same = refl

module _ (rules : Rules) (t : Slots) (demands : List ℕ) (are : Demands rules.goes (waiters rules.rows t) demands) where
  -- the demand of a waiting row stands where the code reads it
  demand_at : (r : ℕ) (row : Row) → r < rules.rows → t r ≡ Some row → waits row ≡ true → get_or demands (length (waiters r t)) 0 ≡ demand rules.goes (waiters rules.rows t) (instance_of r row)
  demand_at r row in_rows used waiting =
      let adds : instance_of r row ∷ [] ≡ waiter r (t r) = sym (ap (waiter r) used ∙ ap (λ b. cond b (instance_of r row ∷ []) []) waiting) in
      are (length (waiters r t)) (waiter_place rules.rows r t (instance_of r row) in_rows adds)
      ∙ ap (demand rules.goes (waiters rules.rows t)) (waiter_at rules.rows r t (instance_of r row) in_rows adds)

  by_demand : ℕ → Row → Bool
  by_demand r row = waits row && leb (get_or demands (length (waiters r t)) 0) rules.window

  by_fit : ℕ → Row → Bool
  by_fit r row = waits row && fits rules.goes rules.window (waiters rules.rows t) (instance_of r row)

  same_slot : (r : ℕ) (o : Option Row) → r < rules.rows → t r ≡ o → used_and (by_demand r) o ≡ used_and (by_fit r) o
  unfolding by_demand by_fit
  same_slot r None in_rows is = refl
  same_slot r (Some row) in_rows is = and_same (waits row) _ _ (λ waiting. ap (λ n. leb n rules.window) (demand_at r row in_rows is waiting))

  -- the rows that the code schedules are those of the cycle
  pub within_is_scheduled : ((r : ℕ) → rules.rows ≤ r → t r ≡ None) → within demands rules.window t ≡ scheduled rules t
  unfolding by_demand by_fit
  within_is_scheduled past =
      fun_ext λ r.
      elim (cases_lt r rules.rows) [
        | inl in_rows ↦ same_slot r (t r) in_rows refl
        | inr beyond ↦ ap (used_and (by_demand r)) (past r beyond) ∙ sym (ap (used_and (by_fit r)) (past r beyond))
      ]

pub none_scheduled : (rules : Rules) (t : Slots) (r : ℕ) → t r ≡ None → scheduled rules t r ≡ false
none_scheduled rules t r e = ap (used_and (λ row. waits row && fits rules.goes rules.window (waiters rules.rows t) (instance_of r row))) e

module _ (rules : Rules) (t now : Slots) (by : ℕ → Bool) (releases : now ≡ release t) (schedules : by ≡ scheduled rules now) where
  by_is : by ≡ scheduled rules (release t)
  by_is = schedules ∙ ap (scheduled rules) releases

  pub closed_is_cycle : {u : Slots} → u ≡ closed_by by now → u ≡ cycle rules t
  unfolding cycle
  closed_is_cycle is = is ∙ ap₂ closed_by by_is releases

  pub word_is_schedule : {w : ℕ} → w ≡ word_below rules.rows by → w ≡ word rules t
  unfolding word word_below
  word_is_schedule is = is ∙ ap (word_below rules.rows) by_is

  pub lowest_is_late : {o : Option ℕ} → o ≡ lowest rules.rows (late_by by now) → o ≡ late_row rules t
  unfolding late late_row
  lowest_is_late is = is ∙ ap₂ (λ s u. lowest rules.rows (late_by s u)) by_is releases
