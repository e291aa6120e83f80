-- A lighter table stays lighter, schedules no later and is late only where the other is. Assumes nothing.
use Rattle.std.proofs.Common.{◌≡◌, ℕ, zero, suc, ◌+◌, ◌-◌, ◌<◌, ◌≤◌, Bool, true, false, cond, ◌&&◌, eqb, List, [], ◌∷◌, ◌++◌, Some, None, Option, sym, refl, ap, ◌∙◌, ⊎_elim, arith}
use Rattle.std.specs.Option.{option_map}
use Rattle.std.proofs.lemmas.Bool.{cases_Bool, false≢true, cond-true, cond-false, and_parts, and_from, leb-true, le-leb}
use Rattle.std.proofs.lemmas.Bool.Decides.{nat_tests}
use Rattle.orders.specs.Laws.{Order}
use Rattle.orders.specs.declared.instance.Instance.{Instance}
use Rattle.engine.specs.declared.row.Row.{Row}
use Rattle.engine.specs.Rows.{instance_of, released, waits, closed, misses, sound}
use Rattle.engine.specs.Cycle.{Slots, Rules, release, waiter, waiters, load, scheduled, cycle, late, used_and, fits}
use Rattle.engine.specs.Comparison.{SoundSlot, Sound, SameOrDone, LighterSlot, Lighter}

-- a sound row stays sound through a release, and its wait is then not 0
pub released_sound : (row : Row) → sound row ≡ true → sound (released row) ≡ true
released_sound row h = grind (arith, nat_tests)

pub released_waits_on : (row : Row) → sound row ≡ true → 0 < (released row).wait
released_waits_on row h = grind (arith, nat_tests)

pub closed_sound : (s : Bool) (row : Row) → sound row ≡ true → 0 < row.wait → sound (closed s row) ≡ true
closed_sound s row h on = grind (arith, nat_tests)

same_period : (a b : Row) → SameOrDone a b → a.figures.period ≡ b.figures.period
same_period a b h = ap (λ f. f.period) h.figures

same_deadline : (a b : Row) → SameOrDone a b → a.figures.deadline ≡ b.figures.deadline
same_deadline a b h = ap (λ f. f.deadline) h.figures

same_duration : (a b : Row) → SameOrDone a b → a.figures.duration ≡ b.figures.duration
same_duration a b h = ap (λ f. f.duration) h.figures

pub released_figures : (row : Row) → (released row).figures ≡ row.figures
released_figures row = elim (eqb row.wait 0) as (λ v. (cond v (record { figures = row.figures; wait = row.figures.period; left = row.figures.deadline }) row).figures ≡ row.figures) [ true ↦ refl | false ↦ refl ]

released_same : (a b : Row) → SameOrDone a b → SameOrDone (released a) (released b)
released_same a b h =
    let p = same_period a b h in
    let d = same_deadline a b h in
    let w = h.waits in
    record {
      figures = released_figures a ∙ h.figures ∙ sym (released_figures b);
      wait = grind (arith, nat_tests);
      waits = λ wa. grind (arith, nat_tests);
    }

-- two rows at the same point of one period that both wait have the same deadline ahead
same_left : (a b : Row) → sound a ≡ true → sound b ≡ true → SameOrDone a b → waits a ≡ true → a.left ≡ b.left
same_left a b sa sb h w =
    let p = same_period a b h in
    let d = same_deadline a b h in
    let wb = h.waits w in
    grind (arith, nat_tests)

same_instance : (r : ℕ) (a b : Row) → sound a ≡ true → sound b ≡ true → SameOrDone a b → waits a ≡ true → instance_of r a ≡ instance_of r b
same_instance r a b sa sb h w = λ i. instance_of r (record { figures = h.figures i; wait = h.wait i; left = same_left a b sa sb h w i })

pub load_append : (goes : Order) (xs ys : List Instance) (i : Instance) → load goes (xs ++ ys) i ≡ load goes xs i + load goes ys i
unfolding load
load_append goes [] ys i = omega arith
load_append goes (x ∷ xs) ys i = omega (arith, load_append goes xs ys i)

waiter_lighter : (goes : Order) (r : ℕ) (a b : Option Row) (i : Instance) → SoundSlot a → SoundSlot b → LighterSlot a b → load goes (waiter r a) i ≤ load goes (waiter r b) i
unfolding load
waiter_lighter goes r None b i sa sb h = omega arith
waiter_lighter goes r (Some a) None i sa sb h = absurd h
waiter_lighter goes r (Some a) (Some b) i sa sb h =
    let one : Row → List Instance = λ row. instance_of r row ∷ [] in
    ⊎_elim
    (λ (wa : waits a ≡ true).
    let left : load goes (waiter r (Some a)) i ≡ load goes (one a) i = ap (λ v. load goes v i) (cond-true (waits a) (one a) [] wa) in
    let right : load goes (waiter r (Some b)) i ≡ load goes (one b) i = ap (λ v. load goes v i) (cond-true (waits b) (one b) [] (h.waits wa)) in
    let same : load goes (one a) i ≡ load goes (one b) i = ap (λ x. load goes (x ∷ []) i) (same_instance r a b sa sb h wa) in
    omega arith)
    (λ (na : waits a ≡ false).
    let left : load goes (waiter r (Some a)) i ≡ 0 = ap (λ v. load goes v i) (cond-false (waits a) (one a) [] na) in
    omega arith)
    (cases_Bool (waits a))

-- fewer go before an instance in a lighter table
pub load_lighter : (goes : Order) (n : ℕ) (t s : Slots) (i : Instance) → Sound t → Sound s → Lighter t s → load goes (waiters n t) i ≤ load goes (waiters n s) i
unfolding waiters
load_lighter goes zero t s i st ss h = omega arith
load_lighter goes (suc n) t s i st ss h =
    omega (arith, load_lighter goes n t s i st ss h, waiter_lighter goes n (t n) (s n) i (st n) (ss n) (h n), load_append goes (waiters n t) (waiter n (t n)) i, load_append goes (waiters n s) (waiter n (s n)) i)

-- the releases keep what is sound and what is lighter
pub release_sound : (t : Slots) → Sound t → Sound (release t)
release_sound t h r = slot (t r) (h r)
  where
    slot : (a : Option Row) → SoundSlot a → SoundSlot (option_map released a)
    slot None sa = tt
    slot (Some a) sa = released_sound a sa

pub release_lighter : (t s : Slots) → Lighter t s → Lighter (release t) (release s)
release_lighter t s h r = slot (t r) (s r) (h r)
  where
    slot : (a b : Option Row) → LighterSlot a b → LighterSlot (option_map released a) (option_map released b)
    slot None b k = tt
    slot (Some a) None k = absurd k
    slot (Some a) (Some b) k = released_same a b k

pub cycle_sound : (rules : Rules) (t : Slots) → Sound t → Sound (cycle rules t)
unfolding cycle
cycle_sound rules t h r = slot (scheduled rules (release t) r) (t r) (h r)
  where
    slot : (s : Bool) (a : Option Row) → SoundSlot a → SoundSlot (option_map (closed s) (option_map released a))
    slot s None sa = tt
    slot s (Some a) sa = closed_sound s (released a) (released_sound a sa) (released_waits_on a sa)

-- what holds of one slot once the releases are made: the first's is scheduled if it waits and the second's is
abbrev Follows : Bool → Bool → Option Row → Type 0
Follows by_first by_second a = used_and waits a ≡ true → by_second ≡ true → by_first ≡ true

module _ (a b : Row) (sa : sound a ≡ true) (sb : sound b ≡ true) (h : SameOrDone a b) where
  still_waits : (x y : Bool) → Follows x y (Some a) → waits (closed x a) ≡ true → waits (closed y b) ≡ true
  still_waits true y f w = absurd (false≢true w)
  still_waits false y f w =
      let wa : waits a ≡ true = grind (arith, nat_tests) in
      let left = same_left a b sa sb h wa in
      let unserved : y ≡ false = ⊎_elim (λ (yes_y : y ≡ true). absurd (false≢true (f wa yes_y))) (λ e. e) (cases_Bool y) in
      grind (arith, nat_tests)

  still_misses : (x y : Bool) → Follows x y (Some a) → misses x a ≡ true → misses y b ≡ true
  still_misses true y f m = absurd (false≢true m)
  still_misses false y f m =
      let wa : waits a ≡ true = grind (arith, nat_tests) in
      let left = same_left a b sa sb h wa in
      let unserved : y ≡ false = ⊎_elim (λ (yes_y : y ≡ true). absurd (false≢true (f wa yes_y))) (λ e. e) (cases_Bool y) in
      grind (arith, nat_tests)

closed_lighter : (x y : Bool) (a b : Option Row) → SoundSlot a → SoundSlot b → LighterSlot a b → Follows x y a → LighterSlot (option_map (closed x) a) (option_map (closed y) b)
closed_lighter x y None b sa sb h f = tt
closed_lighter x y (Some a) None sa sb h f = absurd h
closed_lighter x y (Some a) (Some b) sa sb h f =
    record { figures = h.figures; wait = ap (λ w. w - 1) h.wait; waits = still_waits a b sa sb h x y f }

misses_lighter : (x y : Bool) (a b : Option Row) → SoundSlot a → SoundSlot b → LighterSlot a b → Follows x y a → used_and (misses x) a ≡ true → used_and (misses y) b ≡ true
misses_lighter x y None b sa sb h f m = absurd (false≢true m)
misses_lighter x y (Some a) None sa sb h f m = absurd h
misses_lighter x y (Some a) (Some b) sa sb h f m = still_misses a b sa sb h x y f m

-- two buses that differ in their windows alone
module _ (goes : Order) (n wide narrow : ℕ) (wider : narrow ≤ wide) where
  abbrev one : Rules
  one = record { goes = goes; window = wide; rows = n }

  abbrev other : Rules
  other = record { goes = goes; window = narrow; rows = n }

  module _ (t s : Slots) (st : Sound t) (ss : Sound s) (lighter : Lighter t s) where
    row_fits : (r : ℕ) (a b : Row) → sound a ≡ true → sound b ≡ true → SameOrDone a b → waits a ≡ true
        → (waits b && fits goes narrow (waiters n s) (instance_of r b)) ≡ true → (waits a && fits goes wide (waiters n t) (instance_of r a)) ≡ true
    row_fits r a b sa sb h wa fb =
        let same = same_instance r a b sa sb h wa in
        let room : b.figures.duration + load goes (waiters n s) (instance_of r b) ≤ narrow = leb-true _ _ (and_parts (waits b) _ fb).1 in
        let less = load_lighter goes n t s (instance_of r a) st ss lighter in
        let moved : load goes (waiters n s) (instance_of r a) ≡ load goes (waiters n s) (instance_of r b) = ap (load goes (waiters n s)) same in
        and_from _ _ wa (le-leb _ _ (omega (arith, same_duration a b h)))

    -- what the second schedules, the first schedules if it still waits there
    slot_fits : (r : ℕ) (a b : Option Row) → SoundSlot a → SoundSlot b → LighterSlot a b → used_and waits a ≡ true
        → used_and (λ row. waits row && fits goes narrow (waiters n s) (instance_of r row)) b ≡ true → used_and (λ row. waits row && fits goes wide (waiters n t) (instance_of r row)) a ≡ true
    slot_fits r None b sa sb h wa fb = wa
    slot_fits r (Some a) None sa sb h wa fb = absurd h
    slot_fits r (Some a) (Some b) sa sb h wa fb = row_fits r a b sa sb h wa fb

    pub scheduled_lighter : (r : ℕ) → used_and waits (t r) ≡ true → scheduled other s r ≡ true → scheduled one t r ≡ true
    scheduled_lighter r = slot_fits r (t r) (s r) (st r) (ss r) (lighter r)

  module _ (t s : Slots) (st : Sound t) (ss : Sound s) (lighter : Lighter t s) where
    abbrev t' : Slots
    t' = release t

    abbrev s' : Slots
    s' = release s

    follows : (r : ℕ) → Follows (scheduled one t' r) (scheduled other s' r) (t' r)
    follows = scheduled_lighter t' s' (release_sound t st) (release_sound s ss) (release_lighter t s lighter)

    pub cycle_lighter : Lighter (cycle one t) (cycle other s)
    unfolding cycle
    cycle_lighter r = closed_lighter (scheduled one t' r) (scheduled other s' r) (t' r) (s' r) (release_sound t st r) (release_sound s ss r) (release_lighter t s lighter r) (follows r)

    pub late_lighter : (r : ℕ) → late one t r ≡ true → late other s r ≡ true
    unfolding late
    late_lighter r = misses_lighter (scheduled one t' r) (scheduled other s' r) (t' r) (s' r) (release_sound t st r) (release_sound s ss r) (release_lighter t s lighter r) (follows r)
