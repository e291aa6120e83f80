-- Common multiples: the least of them divides them all. Assumes nothing.
use Rattle.std.proofs.Common.{◌≡◌, ℕ, zero, suc, ◌+◌, ◌*◌, ◌/◌, ◌%◌, ◌<◌, ◌≤◌, min, max, Bool, true, false, ◌&&◌, eqb, ◌⊎◌, Some, None, Option, sym, refl, ap, ◌∙◌, ap₂, inl, inr, ⊎_elim, add-zero, mod-lt, arith}
use native.Mathlib.Nat.{mul-le-mul_right, zero-mod, mod-zero, add-mul-mod_self_right, mod_self, dvd_of_mod-eq-zero, mod-mod_of_dvd}
use Rattle.std.proofs.Math.Bool.{and_comm}
use Rattle.std.proofs.lemmas.Bool.{cases_eq, cases_lt, eq-eqb, ne_eqb, eqb-true, and_parts, and_from, and_left, and_right}
use Rattle.engine.specs.declared.row.Row.{Row}
use Rattle.engine.specs.Cycle.{Slots}
use Rattle.engine.specs.Rehearsal.{every, first_from, divided_by, round}
use Rattle.engine.proofs.Firsts.{First, first_is, first_fails, first_some, first_none, first_like}

abbrev pub both_divide : (a b m : ℕ) → Bool
both_divide a b m = eqb (m % a) 0 && eqb (m % b) 0

-- no positive number is divided by 0
zero_divides_none : (k : ℕ) → 1 ≤ k → eqb (k % 0) 0 ≡ false
zero_divides_none k h = ne_eqb (k % 0) 0 (λ e. omega (arith, mod-zero k))

-- the larger of the two and the smaller of them
pub both_sorted : (a b m : ℕ) → both_divide (max a b) (min a b) m ≡ both_divide a b m
both_sorted a b m =
    ⊎_elim
    (λ (less : a < b).
    let larger : max a b ≡ b = omega arith in
    let smaller : min a b ≡ a = omega arith in
    ap₂ (λ x y. both_divide x y m) larger smaller ∙ and_comm (eqb (m % b) 0) (eqb (m % a) 0))
    (λ (more : b ≤ a).
    let larger : max a b ≡ a = omega arith in
    let smaller : min a b ≡ b = omega arith in
    ap₂ (λ x y. both_divide x y m) larger smaller)
    (cases_lt a b)

-- the search through the multiples of the larger ends at the least common one
module _ (limit a b step other : ℕ) (larger : step ≡ max a b) (smaller : other ≡ min a b) (some : 0 < step) where
  abbrev pub Fail : ℕ → Type 0
  Fail n = (j : ℕ) → j < n → (step + j * step) % other ≡ 0 → ⊥

  -- up to the n-th multiple there is no common one
  none_yet : (n : ℕ) → Fail n → (k : ℕ) → 1 ≤ k → k < step + n * step → both_divide step other k ≡ false
  none_yet n fail k l h =
      ⊎_elim (λ whole. and_right _ _ (multiple whole (k / step) refl)) (λ rest. and_left _ _ (ne_eqb (k % step) 0 rest)) (cases_eq (k % step) 0)
    where
      multiple : k % step ≡ 0 → (q : ℕ) → k / step ≡ q → eqb (k % other) 0 ≡ false
      multiple whole zero e = absurd (omega (arith, ap (λ n. step * n) e))
      multiple whole (suc j) e =
          let is : step + j * step ≡ k = omega (arith, ap (λ n. step * n) e) in
          ⊎_elim (λ (below : j < n). ne_eqb _ _ (λ z. fail j below (ap (λ m. m % other) is ∙ z))) (λ (past : n ≤ j). absurd (omega (arith, mul-le-mul_right step past))) (cases_lt j n)

  sorted_first : first_from limit 1 (both_divide step other) ≡ first_from limit 1 (both_divide a b)
  sorted_first =
      first_like limit 1 (both_divide step other) (both_divide a b) (λ m. ap₂ (λ x y. both_divide x y m) larger smaller ∙ both_sorted a b m)

  pub least_found : (i m : ℕ) → m ≡ step + i * step → m < limit + 1 → m % other ≡ 0 → Fail i → Some m ≡ first_from limit 1 (both_divide a b)
  least_found i m is low whole fail =
      sym (first_is limit 1 (both_divide step other) m
      (record {
        above = omega arith;
        below = omega arith;
        passes = and_from _ _ (eq-eqb (m % step) 0 (ap (λ n. n % step) is ∙ add-mul-mod_self_right step i step ∙ mod_self step)) (eq-eqb (m % other) 0 whole);
        least = λ k l h. none_yet i fail k l (omega arith);
      }))
      ∙ sorted_first

  pub least_missed : (n : ℕ) → limit < step + n * step → Fail n → None ≡ first_from limit 1 (both_divide a b)
  least_missed n past fail = sym (first_fails limit 1 (both_divide step other) (λ k l h. none_yet n fail k l (omega arith))) ∙ sorted_first

-- 0 has no positive multiple
pub least_of_zero : (limit a b : ℕ) → (a ≡ 0) ⊎ (b ≡ 0) → None ≡ first_from limit 1 (both_divide a b)
least_of_zero limit a b zeros = sym (first_fails limit 1 (both_divide a b) (λ k l h. fails k l zeros))
  where
    fails : (k : ℕ) → 1 ≤ k → (a ≡ 0) ⊎ (b ≡ 0) → both_divide a b k ≡ false
    fails k l (inl e) = and_left (eqb (k % a) 0) (eqb (k % b) 0) (ap (λ n. eqb (k % n) 0) e ∙ zero_divides_none k l)
    fails k l (inr e) = and_right (eqb (k % a) 0) (eqb (k % b) 0) (ap (λ n. eqb (k % n) 0) e ∙ zero_divides_none k l)

-- the numbers that every used row's period divides
abbrev pub all_divide : ℕ → Slots → ℕ → Bool
all_divide n t m = every n (λ r. divided_by (t r) m)

slot_mod : (a : Option Row) (c m : ℕ) → divided_by a c ≡ true → divided_by a m ≡ divided_by a (m % c)
slot_mod None c m h = refl
slot_mod (Some row) c m h =
    let p = row.figures.period in
    sym (ap (λ n. eqb n 0) (mod-mod_of_dvd p {b = c} m (dvd_of_mod-eq-zero p {n = c} (eqb-true (c % p) 0 h))))

slot_zero : (a : Option Row) → divided_by a 0 ≡ true
slot_zero None = refl
slot_zero (Some row) = eq-eqb (0 % row.figures.period) 0 (zero-mod row.figures.period)

all_mod : (n : ℕ) (t : Slots) (c m : ℕ) → all_divide n t c ≡ true → all_divide n t m ≡ all_divide n t (m % c)
unfolding every
all_mod zero t c m h = refl
all_mod (suc n) t c m h =
    let parts = and_parts (all_divide n t c) (divided_by (t n) c) h in
    ap₂ ◌&&◌ (all_mod n t c m parts.0) (slot_mod (t n) c m parts.1)

all_zero : (n : ℕ) (t : Slots) → all_divide n t 0 ≡ true
unfolding every
all_zero zero t = refl
all_zero (suc n) t = and_from _ _ (all_zero n t) (slot_zero (t n))

-- a number is divided by every period exactly where the round divides it
pub round_divides : (limit n : ℕ) (t : Slots) (c : ℕ) → round limit n t ≡ Some c → (m : ℕ) → all_divide n t m ≡ eqb (m % c) 0
unfolding round
round_divides limit n t c e m =
    let f : First limit 1 (all_divide n t) c = first_some limit 1 (all_divide n t) c e in
    all_mod n t c m f.passes
    ∙ ⊎_elim
    (λ (whole : m % c ≡ 0). ap (all_divide n t) whole ∙ all_zero n t ∙ sym (eq-eqb (m % c) 0 whole))
    (λ (rest : m % c ≡ 0 → ⊥). f.least (m % c) (omega arith) (mod-lt m {m = c} f.above) ∙ sym (ne_eqb (m % c) 0 rest))
    (cases_eq (m % c) 0)

-- the round of no rows
pub round_begins : (limit : ℕ) (t : Slots) → 0 < limit → round limit 0 t ≡ Some 1
unfolding round every
round_begins limit t pos =
    first_is limit 1 (all_divide 0 t) 1 (record { above = omega arith; below = omega arith; passes = refl; least = λ k l h. absurd (omega arith) })

-- one row more: the least common multiple of the round so far and the row's period
pub round_more : (limit n : ℕ) (t : Slots) (c p : ℕ) → round limit n t ≡ Some c → ((m : ℕ) → divided_by (t n) m ≡ eqb (m % p) 0) → round limit (suc n) t ≡ first_from limit 1 (both_divide c p)
unfolding round every
round_more limit n t c p e is =
    first_like limit 1 (all_divide (suc n) t) (both_divide c p) (λ m. ap₂ ◌&&◌ (round_divides limit n t c e m) (is m))

-- once a row fails, more rows do not help
fewer : (n k : ℕ) (t : Slots) (m : ℕ) → all_divide n t m ≡ false → all_divide (n + k) t m ≡ false
unfolding every
fewer n zero t m h = ap (λ j. all_divide j t m) (add-zero n) ∙ h
fewer n (suc k) t m h =
    let more : n + suc k ≡ suc (n + k) = omega arith in
    ap (λ j. all_divide j t m) more ∙ and_left (all_divide (n + k) t m) (divided_by (t (n + k)) m) (fewer n k t m h)

-- so a round that is lost is lost for all the rows
pub round_lost : (limit n k : ℕ) (t : Slots) → round limit n t ≡ None → round limit (n + k) t ≡ None
unfolding round
round_lost limit n k t e =
    first_fails limit 1 (all_divide (n + k) t) (λ m l h. fewer n k t m (first_none limit 1 (all_divide n t) e m l h))
