-- The table in columns through a cycle, one slot at a time. Assumes nothing.
use Rattle.std.proofs.Common.{◌≡◌, ℕ, zero, suc, ◌-◌, ◌<◌, ◌≤◌, Bool, true, false, cond, eqb, List, [], ◌∷◌, length, get_or, Some, None, Option, sym, refl, ap, ◌∙◌, ap₂, inl, inr, arith}
use mathlib.Core.Path.{fun_ext}
use Rattle.std.specs.Option.{option_map}
use Rattle.std.proofs.lemmas.List.{get_or_past}
use Rattle.std.proofs.lemmas.Bool.{cases_lt, lt-ltb, le-ltb}
use Rattle.orders.specs.Laws.{Order}
use Rattle.orders.specs.declared.instance.Instance.{Instance}
use Rattle.engine.specs.declared.row.Figures.{Figures}
use Rattle.engine.specs.declared.row.Row.{Row}
use Rattle.engine.specs.Rows.{instance_of, released, waits, closed, misses}
use Rattle.engine.specs.Cycle.{Slots, Rules, used_and, release, waiter, scheduled, cycle, late, late_row, first_of, lowest}
use Rattle.engine.specs.Held.{slots, rules_of, no_instance, seen, StandsSlot, Stands, counted, Nearer}
use Rattle.engine.proofs.Lighter.{released_figures}

empty_slot : (b : Bool) (d l : ℕ) → d ≡ 0 → l ≡ 0 → cond b d l ≡ 0
empty_slot true d l p q = p
empty_slot false d l p q = q

-- WHO WAITS

pub slot_waits : (r : ℕ) (kind : Instance) (wait left : ℕ) (o : Option Row) → 0 < left → StandsSlot r kind wait left o → waiter r o ≡ seen r left kind ∷ []
slot_waits r kind wait left None h (d, l) = absurd (omega arith)
slot_waits r kind wait left (Some row) h (e, w) =
    let same : left ≡ row.left = ap (λ i. i.left) e in
    ap (λ b. cond b (instance_of r row ∷ []) []) (lt-ltb 0 row.left (omega arith)) ∙ ap (λ i. i ∷ []) (sym e)

pub slot_idle : (r : ℕ) (kind : Instance) (wait left : ℕ) (o : Option Row) → left ≤ 0 → StandsSlot r kind wait left o → waiter r o ≡ []
slot_idle r kind wait left None h s = refl
slot_idle r kind wait left (Some row) h (e, w) =
    let same : left ≡ row.left = ap (λ i. i.left) e in
    ap (λ b. cond b (instance_of r row ∷ []) []) (le-ltb 0 row.left (omega arith))

-- THE CYCLE'S END, by which rows were scheduled

closed_left : (s : Bool) (l : ℕ) → cond s 0 l - 1 ≡ cond s 0 (l - 1)
closed_left true l = refl
closed_left false l = refl

closed_slot : (r : ℕ) (kind : Instance) (wait left : ℕ) (o : Option Row) (s : Bool) → StandsSlot r kind wait left o → StandsSlot r kind (wait - 1) (cond s 0 left - 1) (option_map (closed s) o)
closed_slot r kind wait left None s (d, l) = (d, ap (λ n. n - 1) (empty_slot s 0 left refl l))
closed_slot r kind wait left (Some row) s (e, w) =
    (ap (λ i. seen r (cond s 0 i.left - 1) i) e ∙ ap (λ n. seen r n (instance_of r row)) (closed_left s row.left), ap (λ n. n - 1) w)

late_slot : (r : ℕ) (kind : Instance) (wait left : ℕ) (o : Option Row) (s : Bool) → StandsSlot r kind wait left o → eqb (cond s 0 left) 1 ≡ used_and (misses s) o
late_slot r kind wait left None s (d, l) = ap (λ n. eqb n 1) (empty_slot s 0 left refl l)
late_slot r kind wait left (Some row) true (e, w) = refl
late_slot r kind wait left (Some row) false (e, w) = ap (λ i. eqb i.left 1) e

lowest_like : (n : ℕ) (test other : ℕ → Bool) → ((r : ℕ) → r < n → test r ≡ other r) → lowest n test ≡ lowest n other
unfolding lowest
lowest_like zero test other same = refl
lowest_like (suc n) test other same =
    ap₂ (λ o b. first_of o (cond b (Some n) None)) (lowest_like n test other (λ r h. same r (omega arith))) (same n (omega arith))

module _ (goes : Order) (window : ℕ) (t : Slots) (by : ℕ → Bool) (kinds : List Instance) (waits lefts served : List ℕ)
    (stands : Stands kinds waits lefts (release t)) (schedules : (r : ℕ) → r < 32 → by r ≡ scheduled (rules_of goes window) (release t) r)
    (is : (r : ℕ) → r < 32 → get_or served r 0 ≡ cond (by r) 0 (get_or lefts r 0)) where
  served_is : (r : ℕ) → r < 32 → get_or served r 0 ≡ cond (scheduled (rules_of goes window) (release t) r) 0 (get_or lefts r 0)
  served_is r h = is r h ∙ ap (λ b. cond b 0 (get_or lefts r 0)) (schedules r h)

  pub late_row_is : lowest 32 (λ k. eqb (get_or served k 0) 1) ≡ late_row (rules_of goes window) t
  unfolding late_row late
  late_row_is = lowest_like 32 _ _ (λ r h. ap (λ n. eqb n 1) (served_is r h) ∙ late_slot r (get_or kinds r no_instance) (get_or waits r 0) (get_or lefts r 0) (release t r) _ (stands.at r h))

  pub stands_closed : (waits' lefts' : List ℕ) → Nearer waits waits' → Nearer served lefts' → Stands kinds waits' lefts' (cycle (rules_of goes window) t)
  unfolding cycle
  stands_closed waits' lefts' ws ls =
      record {
        at = λ r h.
            rw (ws r h, ls r h, served_is r h) (closed_slot r (get_or kinds r no_instance) (get_or waits r 0) (get_or lefts r 0) (release t r) _ (stands.at r h));
        past = λ r h. ap (option_map (closed (scheduled (rules_of goes window) (release t) r))) (stands.past r h);
      }

-- the counters of the columns make the table
same_rows : (f f' : Figures) (w w' l l' : ℕ) → f ≡ f' → w ≡ w' → l ≡ l' → ◌≡◌ {A = Row} (record { figures = f; wait = w; left = l }) (record { figures = f'; wait = w'; left = l' })
same_rows f f' w w' l l' a b c = cc

counted_slot : (r : ℕ) (kind : Instance) (wait left : ℕ) (o : Option Row) (s : Bool) → StandsSlot r kind wait left (option_map (closed s) (option_map released o))
    → option_map (λ row. record { figures = row.figures; wait = wait; left = left }) o ≡ option_map (closed s) (option_map released o)
counted_slot r kind wait left None s h = refl
counted_slot r kind wait left (Some row) s (e, w) = ap Some (same_rows _ _ _ _ _ _ (sym (released_figures row)) w (ap (λ i. i.left) e))

pub counted_is_cycle : (rules : Rules) (rows : List (Option Row)) (kinds : List Instance) (waits lefts : List ℕ) → length rows ≡ 32
    → Stands kinds waits lefts (cycle rules (slots rows)) → counted waits lefts (slots rows) ≡ cycle rules (slots rows)
unfolding cycle
counted_is_cycle rules rows kinds waits lefts long stands =
    fun_ext λ r.
    elim (cases_lt r 32) [
      | inl within ↦ counted_slot r (get_or kinds r no_instance) (get_or waits r 0) (get_or lefts r 0) (slots rows r) _ (stands.at r within)
      | inr past ↦
          let empty : slots rows r ≡ None = get_or_past rows r None (omega arith) in
          ap (option_map (λ row. record { figures = row.figures; wait = get_or waits r 0; left = get_or lefts r 0 })) empty
          ∙ sym (ap (λ o. option_map (closed (scheduled rules (release (slots rows)) r)) (option_map released o)) empty)
    ]
