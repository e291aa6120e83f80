-- The schedule along a line. Assumes nothing.
use Rattle.std.proofs.Common.{◌≡◌, ℕ, zero, suc, ◌+◌, ◌*◌, ◌%◌, ◌^◌, ◌<◌, ◌≤◌, Bool, true, false, cond, ◌&&◌, ◌||◌, eqb, List, [], ◌∷◌, length, get_or, take, set, Some, None, Option, sym, refl, ap, ◌∙◌, subst, inl, inr, ⊎_elim, arith, below_more}
use lib.Bits.{bit_or}
use Rattle.std.specs.List.{ContainsAt as Has, AllByRecursion}
use Rattle.std.proofs.lemmas.Nat.{one_shl}
use Rattle.std.proofs.ByRecursion.{All-get_or, All-append, all_shuffled, has_shuffled}
use Rattle.std.proofs.lemmas.List.{get_or-set_same, get_or-set_other, get_or_default}
use Rattle.std.proofs.lemmas.Bool.{cases_eq, cases_lt, false≢true, eq-eqb, ne_eqb, or_cases, or_right, or_left, eqb-true, leb-true, le-leb, and_parts}
use Rattle.bus.specs.Rows.{member}
use Rattle.bus.proofs.Words.{no_member_past}
use Rattle.orders.specs.Laws.{Order}
use Rattle.orders.specs.declared.instance.Instance.{Instance}
use Rattle.engine.specs.declared.row.Row.{Row}
use Rattle.engine.specs.Rows.{instance_of, waits}
use Rattle.engine.specs.Cycle.{Slots, used_and, waiter, waiters, fits, scheduled}
use Rattle.engine.specs.Held.{rules_of, no_instance, total, Queue, Served, Full}
use Rattle.engine.proofs.Lines.{total_upto, total_more}
use Rattle.engine.proofs.WaitingRows.{member_or, member_one}
use Rattle.engine.proofs.Waiters.{waiter_place, waiter_at}

abbrev at : List Instance → ℕ → Instance
at xs k = get_or xs k no_instance

pub served_none : (line : List Instance) (window : ℕ) (lefts : List ℕ) → Served line window 0 0 lefts lefts
served_none line window lefts =
    let none : (r : ℕ) → member 0 r ≡ false = λ r. no_member_past 0 0 r (omega arith) (omega arith) in
    record {
      few = omega arith;
      fits = omega arith;
      rows = λ k h. absurd (omega arith);
      others = λ r is. absurd (false≢true (sym (none r) ∙ is));
      lefts = λ r h. sym (ap (λ b. cond b 0 (get_or lefts r 0)) (none r));
    }

module _ (line : List Instance) (window k word : ℕ) (old new : List ℕ) (so_far : Served line window k word old new)
    (inside : k < length line) (row : ℕ) (row_is : row ≡ (at line k).row) (in_rows : row < 32) (long : length new ≡ 32) where
  abbrev word' : ℕ
  word' = bit_or word ((1 * 2 ^ row) % 2 ^ 32)

  member_more : (r : ℕ) → member word' r ≡ (member word r || eqb r row)
  member_more r = ap (λ w. member (bit_or word w) r) (one_shl row 32 in_rows) ∙ member_or word (2 ^ row) r ∙ ap (λ b. member word r || b) (member_one row r)

  left_or : (a b : Bool) → b ≡ false → (a || b) ≡ a
  left_or true b e = refl
  left_or false b e = e

  pub served_more : total (take k line) + (at line k).duration ≤ window → Served line window (k + 1) word' old (set new row 0)
  served_more fit =
      record {
        few = omega arith;
        fits = omega (arith, total_more line k inside);
        rows =
            below_more _ k
            (λ j h. member_more (at line j).row ∙ or_left (member word (at line j).row) _ (so_far.rows j h))
            (member_more (at line k).row ∙ or_right (member word (at line k).row) _ (eq-eqb (at line k).row row (sym row_is)));
        others = λ r is.
            ⊎_elim
            (λ (was : member word r ≡ true). let found = so_far.others r was in (found.0, omega (arith, found.1), found.2))
            (λ (now : eqb r row ≡ true). (k, omega arith, sym row_is ∙ sym (eqb-true r row now)))
            (or_cases (member word r) (eqb r row) (sym (member_more r) ∙ is));
        lefts = λ r h.
            ⊎_elim
            (λ (same : r ≡ row).
            ap (λ q. get_or (set new row 0) q 0) same ∙ get_or-set_same new row 0 0 (omega arith)
            ∙ sym (ap (λ b. cond b 0 (get_or old r 0)) (member_more r ∙ or_right (member word r) _ (eq-eqb r row same))))
            (λ (other : r ≡ row → ⊥).
            get_or-set_other new row r 0 0 other ∙ so_far.lefts r h
            ∙ sym (ap (λ b. cond b 0 (get_or old r 0)) (member_more r ∙ left_or (member word r) (eqb r row) (ne_eqb r row other))))
            (cases_eq r row);
      }

-- WHICH ROWS ARE SCHEDULED

-- an instance is what its row has waiting
abbrev Own : Slots → Instance → Type 0
Own t y = waiter y.row (t y.row) ≡ y ∷ []

own_waiter : (t : Slots) (n : ℕ) (o : Option Row) → t n ≡ o → AllByRecursion (Own t) (waiter n o)
own_waiter t n None e = tt
own_waiter t n (Some row) e = go (waits row) refl
  where
    go : (b : Bool) → waits row ≡ b → AllByRecursion (Own t) (cond b (instance_of n row ∷ []) [])
    go true is = (ap (waiter n) e ∙ ap (λ b. cond b (instance_of n row ∷ []) []) is, tt)
    go false is = tt

own_waiters : (t : Slots) (n : ℕ) → AllByRecursion (Own t) (waiters n t)
unfolding waiters
own_waiters t zero = tt
own_waiters t (suc n) = All-append (Own t) (waiters n t) (waiter n (t n)) (own_waiters t n) (own_waiter t n (t n) refl)

same_bool : (a b : Bool) → (a ≡ true → b ≡ true) → (b ≡ true → a ≡ true) → a ≡ b
same_bool true b to back = sym (to refl)
same_bool false true to back = back refl
same_bool false false to back = refl

no_such : {y : Instance} → [] ≡ y ∷ [] → ⊥
no_such e = let z : ◌≡◌ {A = ℕ} 0 1 = ap length e in omega arith

-- a slot whose waiting instance passes
passes : (test : Instance → Bool) (r : ℕ) (o : Option Row) (y : Instance) → waiter r o ≡ y ∷ [] → test y ≡ true → used_and (λ row. waits row && test (instance_of r row)) o ≡ true
passes test r None y e is = absurd (no_such e)
passes test r (Some row) y e is = go (waits row) e
  where
    go : (b : Bool) → cond b (instance_of r row ∷ []) [] ≡ y ∷ [] → (b && test (instance_of r row)) ≡ true
    go true e = ap test (ap (λ xs. at xs 0) e) ∙ is
    go false e = absurd (no_such e)

passing : (test : Instance → Bool) (r : ℕ) (o : Option Row) → used_and (λ row. waits row && test (instance_of r row)) o ≡ true → (y : Instance) × (waiter r o ≡ y ∷ []) × (test y ≡ true) × (y.row ≡ r)
passing test r None is = absurd (false≢true is)
passing test r (Some row) is =
    let parts = and_parts (waits row) (test (instance_of r row)) is in
    (instance_of r row, ap (λ b. cond b (instance_of r row ∷ []) []) parts.0, parts.1, refl)

module _ (goes : Order) (window : ℕ) (t : Slots) (line : List Instance) (queue : Queue goes window (waiters 32 t) line)
    (n word : ℕ) (old new : List ℕ) (served : Served line window n word old new) (full : Full line window n) where
  fit_taken : (k : ℕ) → k < n → fits goes window (waiters 32 t) (at line k) ≡ true
  fit_taken k h =
      sym (queue.fit k (omega (arith, served.few)))
      ∙ le-leb (total (take (k + 1) line)) window (omega (arith, served.fits, total_upto line (k + 1) n (omega arith)))

  taken_fit : (k : ℕ) → k < length line → fits goes window (waiters 32 t) (at line k) ≡ true → k < n
  taken_fit k h is =
      elim (cases_lt k n) [
        | inl yes_k ↦ yes_k
        | inr past ↦
            absurd
            (omega (arith, full (omega arith), total_upto line (n + 1) (k + 1) (omega arith), leb-true (total (take (k + 1) line)) window (queue.fit k h ∙ is)))
      ]

  to : (r : ℕ) → member word r ≡ true → scheduled (rules_of goes window) t r ≡ true
  to r is =
      let found = served.others r is in
      let k = found.0 in
      let own : Own t (at line k) = All-get_or (Own t) line k no_instance (omega (arith, found.1, served.few)) (all_shuffled (Own t) (waiters 32 t) line queue.shuffled (own_waiters t 32)) in
      passes (fits goes window (waiters 32 t)) r (t r) (at line k) (subst (λ q. waiter q (t q) ≡ at line k ∷ []) found.2 own) (fit_taken k found.1)

  back : (r : ℕ) → r < 32 → scheduled (rules_of goes window) t r ≡ true → member word r ≡ true
  back r h is =
      let found = passing (fits goes window (waiters 32 t)) r (t r) is in
      let y = found.0 in
      let place = waiter_place 32 r t y h (sym found.1) in
      let stood : Has (waiters 32 t) y =
      (length (waiters r t), place, λ d. get_or_default (waiters 32 t) (length (waiters r t)) d no_instance place ∙ waiter_at 32 r t y h (sym found.1)) in
      let stands = has_shuffled (waiters 32 t) line y queue.shuffled stood in
      let k = stands.0 in
      let here : at line k ≡ y = stands.2 no_instance in
      let taken = taken_fit k stands.1 (ap (fits goes window (waiters 32 t)) here ∙ found.2) in
      ap (member word) (sym (ap (λ i. i.row) here ∙ found.3)) ∙ served.rows k taken

  pub word_schedules : (r : ℕ) → r < 32 → member word r ≡ scheduled (rules_of goes window) t r
  word_schedules r h = same_bool (member word r) (scheduled (rules_of goes window) t r) (to r) (back r h)
