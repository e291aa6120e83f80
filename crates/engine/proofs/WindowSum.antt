-- Among the scheduled rows one goes last, and what it had to fit behind holds all the others. Assumes nothing.
use Rattle.std.proofs.Common.{◌≡◌, ℕ, zero, suc, ◌+◌, ◌<◌, ◌≤◌, Bool, true, false, cond, not, ◌&&◌, ltb, ◌≢◌, ◌⊎◌, [], ◌∷◌, Some, None, Option, sym, refl, ap, ◌∙◌, subst, inl, inr, ⊎_elim, arith}
use Rattle.std.proofs.lemmas.Bool.{cases_Bool, cases_eq, false≢true, cond-true, and_parts, leb-true, lt-ltb}
use Rattle.std.proofs.lemmas.Bool.Decides.{nat_tests}
use Rattle.orders.specs.Laws.{Laws, Order}
use Rattle.orders.specs.declared.instance.Instance.{Instance}
use Rattle.engine.specs.declared.row.Row.{Row}
use Rattle.engine.specs.Rows.{instance_of, waits}
use Rattle.engine.specs.Cycle.{Slots, Rules, used_and, release, waiter, waiters, load, fits, scheduled}
use Rattle.engine.specs.Load.{units_of, units, scheduled_units}
use Rattle.engine.proofs.Lighter.{load_append}

-- the instance of a slot; an empty one has no duration
slot_instance : ℕ → Option Row → Instance
slot_instance r None = record { row = r; duration = 0; period = 0; deadline = 0; priority = 0; left = 0 }
slot_instance r (Some row) = instance_of r row

row_is : (r : ℕ) (a : Option Row) → (slot_instance r a).row ≡ r
unfolding slot_instance
row_is r None = refl
row_is r (Some row) = refl

duration_is : (r : ℕ) (a : Option Row) → (slot_instance r a).duration ≡ units_of a
unfolding slot_instance
duration_is r None = refl
duration_is r (Some row) = refl

up_to : (P : ℕ → Type 0) {n : ℕ} → ((r : ℕ) → r < n → P r) → P n → (r : ℕ) → r < suc n → P r
up_to P {n} below top r h = ⊎_elim (λ (same : r ≡ n). subst P (sym same) top) (λ (other : r ≡ n → ⊥). below r (omega arith)) (cases_eq r n)

module _ (goes : Order) (laws : Laws goes) (t : Slots) (chosen : ℕ → Bool) where
  abbrev inst : ℕ → Instance
  inst r = slot_instance r (t r)

  apart : (r s : ℕ) → r ≢ s → (inst r).row ≢ (inst s).row
  apart r s h e = h (sym (row_is r (t r)) ∙ e ∙ row_is s (t s))

  -- of the first n rows, m is chosen and every other one that is chosen goes before it
  record Last (n m : ℕ) : Type 0 where
    inside : m < n
    is : chosen m ≡ true
    others : (r : ℕ) → r < n → chosen r ≡ true → r ≢ m → goes (inst r) (inst m) ≡ true

  abbrev Found : ℕ → Type 0
  Found n = ((r : ℕ) → r < n → chosen r ≡ false) ⊎ ((m : ℕ) × Last n m)

  last : (n : ℕ) → Found n
  last zero = inl (λ r h. absurd (omega arith))
  last (suc n) = go (last n) (cases_Bool (chosen n))
    where
      go : Found n → (chosen n ≡ true) ⊎ (chosen n ≡ false) → Found (suc n)
      go (inl none) (inl yes_n) =
          inr (n, record { inside = omega arith; is = yes_n; others = λ r h c ne. absurd (false≢true (sym (none r (omega arith)) ∙ c)) })
      go (inl none) (inr not_n) = inl (up_to (λ r. chosen r ≡ false) none not_n)
      go (inr x) (inr not_n) =
          inr (
            x.0,
            record {
              inside = omega (arith, x.1.inside);
              is = x.1.is;
              others = up_to (λ r. chosen r ≡ true → r ≢ x.0 → goes (inst r) (inst x.0) ≡ true) x.1.others (λ c ne. absurd (false≢true (sym not_n ∙ c)));
            },
          )
      go (inr x) (inl yes_n) = turn (cases_Bool (goes (inst x.0) (inst n)))
        where
          m : ℕ
          m = x.0

          lower : n ≢ m
          lower e = omega (arith, x.1.inside)

          higher : m ≢ n
          higher e = omega (arith, x.1.inside)

          before_n : goes (inst m) (inst n) ≡ true → (r : ℕ) → r < n → chosen r ≡ true → r ≢ n → goes (inst r) (inst n) ≡ true
          before_n g r h c ne =
              ⊎_elim
              (λ (same : r ≡ m). ap (λ k. goes (inst k) (inst n)) same ∙ g)
              (λ (other : r ≡ m → ⊥). laws.chain (inst r) (inst m) (inst n) (apart r n ne) (x.1.others r h c other) g)
              (cases_eq r m)

          turn : (goes (inst m) (inst n) ≡ true) ⊎ (goes (inst m) (inst n) ≡ false) → Found (suc n)
          turn (inl g) =
              inr (
                n,
                record {
                  inside = omega arith;
                  is = yes_n;
                  others = up_to (λ r. chosen r ≡ true → r ≢ n → goes (inst r) (inst n) ≡ true) (before_n g) (λ c ne. absurd (ne refl));
                },
              )
          turn (inr g) =
              inr (
                m,
                record {
                  inside = omega (arith, x.1.inside);
                  is = x.1.is;
                  others = up_to (λ r. chosen r ≡ true → r ≢ m → goes (inst r) (inst m) ≡ true) x.1.others (λ c ne. laws.one_way (inst m) (inst n) (apart m n higher) ∙ ap not g);
                },
              )

  -- the durations of the chosen rows below k that go before row m
  ahead : ℕ → ℕ → ℕ
  ahead m zero = 0
  ahead m (suc k) = ahead m k + cond (chosen k && goes (inst k) (inst m)) (units_of (t k)) 0

  -- the last one's duration and what goes before it are all that is chosen
  all_behind : (n m : ℕ) → Last n m → (k : ℕ) → k ≤ n → units chosen t k ≤ cond (ltb m k) (units_of (t m)) 0 + ahead m k
  unfolding units ahead
  all_behind n m last zero h = omega arith
  all_behind n m last (suc k) h =
      let before = all_behind n m last k (omega arith) in
      ⊎_elim
      (λ (same : k ≡ m). let same_units = ap (λ r. units_of (t r)) same in grind (arith, nat_tests))
      (λ (other : k ≡ m → ⊥).
      ⊎_elim
      (λ (c : chosen k ≡ true). let g = last.others k h c other in grind (arith, nat_tests))
      (λ (c : chosen k ≡ false). grind (arith, nat_tests))
      (cases_Bool (chosen k)))
      (cases_eq k m)

-- a chosen row that waits is among those who may go before
slot_ahead : (goes : Order) (k : ℕ) (x : Instance) (s : Bool) (a : Option Row) → (s ≡ true → used_and waits a ≡ true) → cond (s && goes (slot_instance k a) x) (units_of a) 0 ≤ load goes (waiter k a) x
unfolding slot_instance load
slot_ahead goes k x s None w = grind (arith, nat_tests)
slot_ahead goes k x false (Some row) w = omega arith
slot_ahead goes k x true (Some row) w =
    let one : load goes (waiter k (Some row)) x ≡ cond (goes (instance_of k row) x) row.figures.duration 0 + 0 = ap (λ v. load goes v x) (cond-true (waits row) (instance_of k row ∷ []) [] (w refl)) in
    omega arith

units_none : (chosen : ℕ → Bool) (t : Slots) (n : ℕ) → ((r : ℕ) → r < n → chosen r ≡ false) → units chosen t n ≡ 0
unfolding units
units_none chosen t zero none = refl
units_none chosen t (suc n) none =
    let before = units_none chosen t n (λ r h. none r (omega arith)) in
    let here = none n (omega arith) in
    grind (arith, nat_tests)

module _ (rules : Rules) (laws : Laws rules.goes) (t : Slots) where
  abbrev order : Order
  order = rules.goes

  abbrev served : ℕ → Bool
  served = scheduled rules t

  -- what is scheduled waits, and fits behind what goes before it
  served_waits : (r : ℕ) (a : Option Row) → used_and (λ row. waits row && fits order rules.window (waiters rules.rows t) (instance_of r row)) a ≡ true → used_and waits a ≡ true
  served_waits r None e = e
  served_waits r (Some row) e = (and_parts (waits row) _ e).0

  served_fits : (r : ℕ) (a : Option Row) → used_and (λ row. waits row && fits order rules.window (waiters rules.rows t) (instance_of r row)) a ≡ true
      → units_of a + load order (waiters rules.rows t) (slot_instance r a) ≤ rules.window
  unfolding slot_instance
  served_fits r None e = absurd (false≢true e)
  served_fits r (Some row) e = leb-true _ _ (and_parts (waits row) _ e).1

  ahead_in_load : (m k : ℕ) → ahead order laws t served m k ≤ load order (waiters k t) (slot_instance m (t m))
  unfolding ahead waiters
  ahead_in_load m zero = omega arith
  ahead_in_load m (suc k) =
      omega (arith, ahead_in_load m k, slot_ahead order k (slot_instance m (t m)) (served k) (t k) (served_waits k (t k)), load_append order (waiters k t) (waiter k (t k)) (slot_instance m (t m)))

  pub served_within : units served t rules.rows ≤ rules.window
  served_within = go (last order laws t served rules.rows)
    where
      n : ℕ
      n = rules.rows

      go : Found order laws t served n → units served t n ≤ rules.window
      go (inl none) = omega (arith, units_none served t n none)
      go (inr x) =
          let behind = all_behind order laws t served n x.0 x.1 n (omega arith) in
          let inside : cond (ltb x.0 n) (units_of (t x.0)) 0 ≡ units_of (t x.0) = cond-true (ltb x.0 n) (units_of (t x.0)) 0 (lt-ltb x.0 n x.1.inside) in
          omega (arith, ahead_in_load x.0 n, served_fits x.0 (t x.0) x.1.is)

-- no cycle schedules more than its window, whatever the table and whichever lawful order
pub window_kept : (rules : Rules) → Laws rules.goes → (t : Slots) → scheduled_units rules t ≤ rules.window
window_kept rules laws t = served_within rules laws (release t)
