-- A table that settled is never late. Assumes nothing.
use Rattle.std.proofs.Common.{◌≡◌, ℕ, zero, suc, ◌+◌, ◌-◌, ◌<◌, ◌≤◌, true, false, ap, ◌∙◌, subst, ⊎_elim, le_refl, zero-add, arith}
use Rattle.std.proofs.lemmas.Bool.{cases_Bool, cases_lt, both_ways}
use Rattle.orders.specs.Laws.{Order}
use Rattle.engine.specs.Cycle.{Slots, Rules, cycle, late, after}
use Rattle.engine.specs.Comparison.{Sound, Lighter, Calm}
use Rattle.engine.proofs.Lighter.{cycle_sound, cycle_lighter, late_lighter}

pub after_sound : (rules : Rules) (k : ℕ) (t : Slots) → Sound t → Sound (after rules k t)
unfolding after
after_sound rules zero t h = h
after_sound rules (suc k) t h = after_sound rules k (cycle rules t) (cycle_sound rules t h)

pub after_add : (rules : Rules) (j k : ℕ) (t : Slots) → after rules (j + k) t ≡ after rules k (after rules j t)
unfolding after
after_add rules zero k t = ap (λ n. after rules n t) (zero-add k)
after_add rules (suc j) k t =
    let more : suc j + k ≡ suc (j + k) = omega arith in
    ap (λ n. after rules n t) more ∙ after_add rules j k (cycle rules t)

-- so many cycles on the first table is still lighter
module _ (goes : Order) (n wide narrow : ℕ) (wider : narrow ≤ wide) where
  abbrev one : Rules
  one = record { goes = goes; window = wide; rows = n }

  abbrev other : Rules
  other = record { goes = goes; window = narrow; rows = n }

  pub after_lighter : (k : ℕ) (t s : Slots) → Sound t → Sound s → Lighter t s → Lighter (after one k t) (after other k s)
  unfolding after
  after_lighter zero t s st ss h = h
  after_lighter (suc k) t s st ss h =
      after_lighter k (cycle one t) (cycle other s) (cycle_sound one t st) (cycle_sound other s ss) (cycle_lighter goes n wide narrow wider t s st ss h)

  -- and is late only where the second is
  pub late_after_lighter : (k : ℕ) (t s : Slots) → Sound t → Sound s → Lighter t s → (r : ℕ) → late one (after one k t) r ≡ true → late other (after other k s) r ≡ true
  late_after_lighter k t s st ss h =
      late_lighter goes n wide narrow wider (after one k t) (after other k s) (after_sound one k t st) (after_sound other k s ss) (after_lighter k t s st ss h)

  pub calm_lighter : (t s : Slots) → Sound t → Sound s → Lighter t s → Calm other s → Calm one t
  calm_lighter t s st ss h calm k r =
      ⊎_elim (λ (l : late one (after one k t) r ≡ true). absurd (both_ways _ (calm k r) (late_after_lighter k t s st ss h r l))) (λ e. e) (cases_Bool (late one (after one k t) r))

-- no row is late in the next k cycles
abbrev pub CalmFor : Rules → ℕ → Slots → Type 0
CalmFor rules k t = (j r : ℕ) → j < k → late rules (after rules j t) r ≡ false

-- a table that is lighter after some cycles, none of them late, is never late
module _ (goes : Order) (n window : ℕ) where
  abbrev rules : Rules
  rules = record { goes = goes; window = window; rows = n }

  back : (cycles : ℕ) (t : Slots) → 0 < cycles → Sound t → CalmFor rules cycles t → Lighter (after rules cycles t) t → (bound k r : ℕ) → k < bound → late rules (after rules k t) r ≡ false
  back cycles t some st calm lighter zero k r h = absurd (omega arith)
  back cycles t some st calm lighter (suc bound) k r h =
      ⊎_elim
      (λ (early : k < cycles). calm k r early)
      (λ (past : cycles ≤ k).
      let split : k ≡ cycles + (k - cycles) = omega arith in
      let before = back cycles t some st calm lighter bound (k - cycles) r (omega arith) in
      let moved : after rules k t ≡ after rules (k - cycles) (after rules cycles t) = ap (λ m. after rules m t) split ∙ after_add rules cycles (k - cycles) t in
      ⊎_elim
      (λ (l : late rules (after rules k t) r ≡ true).
      let l' : late rules (after rules (k - cycles) (after rules cycles t)) r ≡ true = subst (λ u. late rules u r ≡ true) moved l in
      absurd (both_ways _ before (late_after_lighter goes n window window (le_refl window) (k - cycles) (after rules cycles t) t (after_sound rules cycles t st) st lighter r l')))
      (λ e. e)
      (cases_Bool (late rules (after rules k t) r)))
      (cases_lt k cycles)

  pub calm_when_lighter : (cycles : ℕ) (t : Slots) → 0 < cycles → Sound t → CalmFor rules cycles t → Lighter (after rules cycles t) t → Calm rules t
  calm_when_lighter cycles t some st calm lighter k r = back cycles t some st calm lighter (suc k) k r (omega arith)

  -- calm cycles in front of a calm table
  pub calm_before : (cycles : ℕ) (t : Slots) → CalmFor rules cycles t → Calm rules (after rules cycles t) → Calm rules t
  calm_before cycles t first then_on k r =
      ⊎_elim
      (λ (early : k < cycles). first k r early)
      (λ (past : cycles ≤ k).
      let split : k ≡ cycles + (k - cycles) = omega arith in
      ap (λ u. late rules u r) (ap (λ m. after rules m t) split ∙ after_add rules cycles (k - cycles) t) ∙ then_on (k - cycles) r)
      (cases_lt k cycles)
