-- What each verdict of a rehearsal says of the cycles to come. Assumes nothing.
use Rattle.std.proofs.Common.{◌≡◌, ℕ, zero, suc, ◌+◌, ◌-◌, ◌*◌, ◌/◌, ◌%◌, ◌<◌, ◌≤◌, Bool, true, false, eqb, ◌⊎◌, Some, None, Option, sym, refl, ap, ◌∙◌, subst, subst₂, inl, inr, ⊎_elim, add-zero, add_assoc, div-add-mod', one-add, arith}
use Rattle.std.specs.Option.{option_map}
use Rattle.std.proofs.lemmas.Bool.{cases_lt, cases_eq, false≢true, eqb-true}
use Rattle.std.proofs.lemmas.Bool.Decides.{nat_tests}
use Rattle.orders.specs.Laws.{Order}
use Rattle.engine.specs.declared.row.Row.{Row}
use Rattle.engine.specs.declared.verdict.Verdict.{Verdict}
use Rattle.engine.specs.declared.verdict.Verdict.TheVariants.{Settled, Late, Unsettled}
use Rattle.engine.specs.Rows.{released, waits, misses, sound}
use Rattle.engine.specs.Cycle.{Slots, Rules, used_and, release, scheduled, cycle, late, late_row, after}
use Rattle.engine.specs.Comparison.{SoundSlot, Sound, LighterSlot, Lighter, Calm, FirstLate}
use Rattle.engine.specs.Known.{SameTurn, WaitsComeBack}
use Rattle.engine.specs.Rehearsal.{every, divided_by, round, wait_of, lead_in, settled, stretch, rounds, verdict}
use Rattle.engine.proofs.Calm.{after_sound, after_add, CalmFor, calm_when_lighter, calm_before}
use Rattle.engine.proofs.Firsts.{first_some}
use Rattle.engine.proofs.Stretches.{begins}
use Rattle.engine.proofs.Tests.{lowest_none, every_at}
use Rattle.engine.proofs.Turns.{Holds, wait_after, wait_turns, wait_stays, wait_arrives, after_holds, after_empty}

-- every used row's wait is below its period
abbrev pub RegularSlot : Option Row → Type 0
RegularSlot None = Unit {0}
RegularSlot (Some row) = row.wait < row.figures.period

abbrev pub Regular : Slots → Type 0
Regular t = (r : ℕ) → RegularSlot (t r)

abbrev pub Divided : ℕ → Slots → Type 0
Divided m t = (r : ℕ) → divided_by (t r) m ≡ true

-- no row from n on is in use
abbrev pub Within : ℕ → Slots → Type 0
Within n t = (r : ℕ) → n ≤ r → t r ≡ None

-- a wait is back after any multiple of its period
turned : (p m w : ℕ) → w < p → eqb (m % p) 0 ≡ true → wait_after p m w ≡ w
turned p m w h d =
    let whole : m ≡ m / p * p = omega (arith, div-add-mod' m p, eqb-true (m % p) 0 d) in
    ap (λ n. wait_after p n w) whole ∙ wait_turns p (m / p) w h

module _ (rules : Rules) (round : ℕ) (t : Slots) where
  -- the slot a of t, and what stands there a round later
  slot_back : (r : ℕ) (a b : Option Row) → t r ≡ a → after rules round t r ≡ b → RegularSlot a → divided_by a round ≡ true → (used_and waits b ≡ true → used_and waits a ≡ true) → LighterSlot b a
  slot_back r None b ea eb reg div waited = subst (λ v. LighterSlot v None) (sym (after_empty rules round t r ea) ∙ eb) tt
  slot_back r (Some x) b ea eb reg div waited =
      let held : Holds x.figures (wait_after x.figures.period round x.wait) b
      = subst (Holds x.figures _) eb (after_holds rules x.figures round x.wait t r (subst (Holds x.figures x.wait) (sym ea) (refl, refl))) in
      same b (subst (λ w. Holds x.figures w b) (turned x.figures.period round x.wait reg div) held) waited
    where
      same : (c : Option Row) → Holds x.figures x.wait c → (used_and waits c ≡ true → waits x ≡ true) → LighterSlot c (Some x)
      same None h w = absurd h
      same (Some y) h w = record { figures = h.0; wait = h.1; waits = w }

  waited_at : (n r : ℕ) → r < n → settled n t (after rules round t) ≡ true → used_and waits (after rules round t r) ≡ true → used_and waits (t r) ≡ true
  unfolding settled
  waited_at n r h s w = let each = every_at n _ s r h in grind (arith, nat_tests)

  pub lighter_when_settled : (n : ℕ) → Within n t → Regular t → Divided round t → settled n t (after rules round t) ≡ true → Lighter (after rules round t) t
  lighter_when_settled n within reg div s r =
      slot_back r (t r) (after rules round t r) refl refl (reg r) (div r)
      (⊎_elim (λ (inside : r < n). waited_at n r inside s) (λ (past : n ≤ r) w. absurd (false≢true (sym (ap (used_and waits) (after_empty rules round t r (within r past))) ∙ w))) (cases_lt r n))

-- no row is late in the next k cycles, as the rehearsal sees it
abbrev pub Quiet : Rules → ℕ → Slots → Type 0
Quiet rules k t = (j : ℕ) → j < k → late_row rules (after rules j t) ≡ None

-- row r is the lowest that is late in the cycle j cycles on, and none is late before
pub record LateIn (rules : Rules) (t : Slots) (j r : ℕ) : Type 0 where
  pub quiet : Quiet rules j t
  pub late : late_row rules (after rules j t) ≡ Some r

-- a stretch ends at its first late row, or goes on with what follows
abbrev Stretched : Rules → (k coming : ℕ) → (Slots → Verdict) → Slots → Type 0
Stretched rules k coming next t =
    ((j r : ℕ) × (j < k) × LateIn rules t j r × (stretch rules k coming next t ≡ Late r (coming + j)))
    ⊎ (Quiet rules k t × (stretch rules k coming next t ≡ next (after rules k t)))

module _ (rules : Rules) where
  quiet_more : (k : ℕ) (t : Slots) → late_row rules t ≡ None → Quiet rules k (cycle rules t) → Quiet rules (suc k) t
  unfolding after
  quiet_more k t now later zero h = now
  quiet_more k t now later (suc j) h = later j (omega arith)

  after_more : (k : ℕ) (t : Slots) → after rules (suc k) t ≡ after rules k (cycle rules t)
  unfolding after
  after_more k t = refl

  late_more : (j r : ℕ) (t : Slots) → late_row rules t ≡ None → LateIn rules (cycle rules t) j r → LateIn rules t (suc j) r
  late_more j r t now f = record { quiet = quiet_more j t now f.quiet; late = ap (late_row rules) (after_more j t) ∙ f.late }

  stretched : (k coming : ℕ) (next : Slots → Verdict) (t : Slots) → Stretched rules k coming next t
  unfolding stretch after
  stretched zero coming next t = inr ((λ j h. absurd (omega arith)), refl)
  stretched (suc k) coming next t = go (late_row rules t) refl (stretched k (coming + 1) next (cycle rules t))
    where
      go : (l : Option ℕ) → late_row rules t ≡ l → Stretched rules k (coming + 1) next (cycle rules t) → Stretched rules (suc k) coming next t
      go (Some r) e later =
          inl (0, r, omega arith, record { quiet = λ j h. absurd (omega arith); late = e }, begins rules k coming next t (Some r) e ∙ ap (Late r) (sym (add-zero coming)))
      go None e (inl x) =
          inl (suc x.0, x.1, omega (arith, x.2), late_more x.0 x.1 t e x.3, begins rules k coming next t None e ∙ x.4 ∙ ap (Late x.1) (add_assoc coming 1 x.0 ∙ ap (λ m. coming + m) (one-add x.0)))
      go None e (inr y) = inr (quiet_more k t e y.0, begins rules k coming next t None e ∙ y.1)

-- what the rehearsal needs to know of the table: it has these rows, they are sound, and the round is a multiple of each period
pub record Ready (n round : ℕ) (t : Slots) : Type 0 where
  pub within : Within n t
  pub sound : Sound t
  pub divided : Divided round t

-- what stands in a slot some cycles on
pub held_after : (rules : Rules) (k : ℕ) (t : Slots) (r : ℕ) (x : Row) → t r ≡ Some x → Holds x.figures (wait_after x.figures.period k x.wait) (after rules k t r)
held_after rules k t r x e = after_holds rules x.figures k x.wait t r (subst (Holds x.figures x.wait) (sym e) (refl, refl))

divided_after : (rules : Rules) (m k : ℕ) (t : Slots) → Divided m t → Divided m (after rules k t)
divided_after rules m k t h r = go (t r) refl (h r)
  where
    keeps : (x : Row) (b : Option Row) (w : ℕ) → Holds x.figures w b → eqb (m % x.figures.period) 0 ≡ true → divided_by b m ≡ true
    keeps x None w held d = absurd held
    keeps x (Some y) w held d = ap (λ f. eqb (m % f.period) 0) held.0 ∙ d

    go : (a : Option Row) → t r ≡ a → divided_by a m ≡ true → divided_by (after rules k t r) m ≡ true
    go None e d = ap (λ b. divided_by b m) (after_empty rules k t r e)
    go (Some x) e d = keeps x (after rules k t r) (wait_after x.figures.period k x.wait) (held_after rules k t r x e) d

-- the waits are below their periods after as many cycles as the longest of them
regular_by : (rules : Rules) (k : ℕ) (t : Slots) → Sound t → ((r : ℕ) (x : Row) → t r ≡ Some x → wait_after x.figures.period k x.wait < x.figures.period) → Regular (after rules k t)
regular_by rules k t st low r = go (t r) refl
  where
    keeps : (x : Row) (b : Option Row) (w : ℕ) → Holds x.figures w b → w < x.figures.period → RegularSlot b
    keeps x None w held h = absurd held
    keeps x (Some y) w held h = subst₂ (λ v f. v < f.period) (sym held.1) (sym held.0) h

    go : (a : Option Row) → t r ≡ a → RegularSlot (after rules k t r)
    go None e = subst RegularSlot (sym (after_empty rules k t r e)) tt
    go (Some x) e = keeps x (after rules k t r) (wait_after x.figures.period k x.wait) (held_after rules k t r x e) (low r x e)

regular_after : (rules : Rules) (k : ℕ) (t : Slots) → Sound t → Regular t → Regular (after rules k t)
regular_after rules k t st reg = regular_by rules k t st (λ r x e. wait_stays x.figures.period k x.wait (subst RegularSlot e (reg r)))

ready_after : (rules : Rules) (n round k : ℕ) (t : Slots) → Ready n round t → Ready n round (after rules k t)
ready_after rules n round k t ready =
    record {
      within = λ r h. after_empty rules k t r (ready.within r h);
      sound = after_sound rules k t ready.sound;
      divided = divided_after rules round k t ready.divided;
    }

-- each wait is within the lead-in
in_lead : (n : ℕ) (t : Slots) (r : ℕ) → r < n → wait_of (t r) ≤ lead_in n t
unfolding lead_in
in_lead zero t r h = absurd (omega arith)
in_lead (suc n) t r h =
    ⊎_elim
    (λ (same : r ≡ n). omega (arith, ap (λ k. wait_of (t k)) same))
    (λ (apart : r ≡ n → ⊥). let low : r < n = omega arith in omega (arith, in_lead n t r low))
    (cases_eq r n)

-- after the lead-in all are regular
pub regular_lead : (rules : Rules) (n : ℕ) (t : Slots) → Within n t → Sound t → Regular (after rules (lead_in n t) t)
regular_lead rules n t within st =
    regular_by rules (lead_in n t) t st
    (λ r x e.
    let pos : 0 < x.figures.period = positive x (subst SoundSlot e (st r)) in
    ⊎_elim
    (λ (inside : r < n). wait_arrives x.figures.period (lead_in n t) x.wait pos (omega (arith, in_lead n t r inside, ap wait_of e)))
    (λ (past : n ≤ r). absurd (some_none (sym e ∙ within r past)))
    (cases_lt r n))
  where
    positive : (x : Row) → sound x ≡ true → 0 < x.figures.period
    positive x h = grind (arith, nat_tests)

    some_none : {x : Row} → Some x ≡ None → ⊥
    some_none e = let z : ◌≡◌ {A = ℕ} 0 1 = cc in omega arith

-- a verdict is one of three
late_is_settled : {r c : ℕ} → Late r c ≡ Settled → ⊥
late_is_settled e = let z : ◌≡◌ {A = ℕ} 0 1 = cc in omega arith

unsettled_is_settled : Unsettled ≡ Settled → ⊥
unsettled_is_settled e = let z : ◌≡◌ {A = ℕ} 0 1 = cc in omega arith

module _ (goes : Order) (n window round : ℕ) (some : 0 < round) where
  abbrev rules : Rules
  rules = record { goes = goes; window = window; rows = n }

  calm_when_quiet : (k : ℕ) (t : Slots) → Within n t → Quiet rules k t → CalmFor rules k t
  unfolding late_row late
  calm_when_quiet k t within quiet j r h =
      ⊎_elim
      (λ (inside : r < n). lowest_none n (late rules (after rules j t)) (quiet j h) r inside)
      (λ (past : n ≤ r). ap (λ a. used_and (misses (scheduled rules (release (after rules j t)) r)) (option_map released a)) (after_empty rules j t r (within r past)))
      (cases_lt r n)

  -- a table that settled at the end of some round is never late
  settled_rounds : (left coming : ℕ) (t : Slots) → Ready n round t → Regular t → rounds rules round left coming t ≡ Settled → Calm rules t
  unfolding rounds
  settled_rounds zero coming t ready reg e = absurd (unsettled_is_settled e)
  settled_rounds (suc left) coming t ready reg e =
      go (settled_rounds left (coming + round) u (ready_after rules n round round t ready) (regular_after rules round t ready.sound reg)) (stretched rules round coming next t)
    where
      u : Slots
      u = after rules round t

      next : Slots → Verdict
      next v = elim (settled n t v) [ true ↦ Settled | false ↦ rounds rules round left (coming + round) v ]

      ended : (rounds rules round left (coming + round) u ≡ Settled → Calm rules u) → CalmFor rules round t → (b : Bool) → settled n t u ≡ b → elim b [ true ↦ Settled | false ↦ rounds rules round left (coming + round) u ] ≡ Settled → Calm rules t
      ended later quiet true s f =
          calm_when_lighter goes n window round t some ready.sound quiet (lighter_when_settled rules round t n ready.within reg ready.divided s)
      ended later quiet false s f = calm_before goes n window round t quiet (later f)

      go : (rounds rules round left (coming + round) u ≡ Settled → Calm rules u) → Stretched rules round coming next t → Calm rules t
      go later (inl x) = absurd (late_is_settled (sym x.4 ∙ e))
      go later (inr y) = ended later (calm_when_quiet round t ready.within y.0) (settled n t u) refl (sym y.1 ∙ e)

  -- and so is one that settled after its lead-in
  pub calm_when_settled : (t : Slots) → Ready n round t → verdict rules round t ≡ Settled → Calm rules t
  unfolding verdict
  calm_when_settled t ready e = go (stretched rules (lead_in n t) 1 next t)
    where
      next : Slots → Verdict
      next = rounds rules round 4 (1 + lead_in n t)

      go : Stretched rules (lead_in n t) 1 next t → Calm rules t
      go (inl x) = absurd (late_is_settled (sym x.4 ∙ e))
      go (inr y) =
          calm_before goes n window (lead_in n t) t (calm_when_quiet (lead_in n t) t ready.within y.0)
          (settled_rounds 4 (1 + lead_in n t) (after rules (lead_in n t) t) (ready_after rules n round (lead_in n t) t ready) (regular_lead rules n t ready.within ready.sound) (sym y.1 ∙ e))

-- a late verdict names the first late row there is
same_late : {r s c d : ℕ} → Late r c ≡ Late s d → (r ≡ s) × (c ≡ d)
same_late e = (cc, cc)

settled_is_late : {r c : ℕ} → Settled ≡ Late r c → ⊥
settled_is_late e = let z : ◌≡◌ {A = ℕ} 0 1 = cc in omega arith

unsettled_is_late : {r c : ℕ} → Unsettled ≡ Late r c → ⊥
unsettled_is_late e = let z : ◌≡◌ {A = ℕ} 0 1 = cc in omega arith

module _ (rules : Rules) where
  quiet_then : (j k : ℕ) (t : Slots) → Quiet rules j t → Quiet rules k (after rules j t) → Quiet rules (j + k) t
  quiet_then j k t first later i h =
      ⊎_elim
      (λ (early : i < j). first i early)
      (λ (past : j ≤ i).
      let split : i ≡ j + (i - j) = omega arith in
      ap (λ m. late_row rules (after rules m t)) split ∙ ap (late_row rules) (after_add rules j (i - j) t) ∙ later (i - j) (omega arith))
      (cases_lt i j)

  late_then : (j k r : ℕ) (t : Slots) → Quiet rules j t → LateIn rules (after rules j t) k r → LateIn rules t (j + k) r
  late_then j k r t first later =
      record { quiet = quiet_then j k t first later.quiet; late = ap (late_row rules) (after_add rules j k t) ∙ later.late }

  abbrev LateFrom : (coming r c : ℕ) → Slots → Type 0
  LateFrom coming r c t = (j : ℕ) × (c ≡ coming + j) × LateIn rules t j r

  late_rounds : (round left coming r c : ℕ) (t : Slots) → rounds rules round left coming t ≡ Late r c → LateFrom coming r c t
  unfolding rounds
  late_rounds round zero coming r c t e = absurd (unsettled_is_late e)
  late_rounds round (suc left) coming r c t e = go (late_rounds round left (coming + round) r c u) (stretched rules round coming next t)
    where
      u : Slots
      u = after rules round t

      next : Slots → Verdict
      next v = elim (settled rules.rows t v) [ true ↦ Settled | false ↦ rounds rules round left (coming + round) v ]

      ended : (rounds rules round left (coming + round) u ≡ Late r c → LateFrom (coming + round) r c u) → Quiet rules round t → (b : Bool) → elim b [ true ↦ Settled | false ↦ rounds rules round left (coming + round) u ] ≡ Late r c → LateFrom coming r c t
      ended later quiet true f = absurd (settled_is_late f)
      ended later quiet false f =
          let x = later f in
          (round + x.0, x.1 ∙ add_assoc coming round x.0, late_then round x.0 r t quiet x.2)

      go : (rounds rules round left (coming + round) u ≡ Late r c → LateFrom (coming + round) r c u) → Stretched rules round coming next t → LateFrom coming r c t
      go later (inl x) =
          let same = same_late (sym x.4 ∙ e) in
          (x.0, sym same.1, subst (LateIn rules t x.0) same.0 x.3)
      go later (inr y) = ended later y.0 (settled rules.rows t u) (sym y.1 ∙ e)

  first_of_verdict : (round r c : ℕ) (t : Slots) → verdict rules round t ≡ Late r c → LateFrom 1 r c t
  unfolding verdict
  first_of_verdict round r c t e = go (stretched rules lead 1 next t)
    where
      lead : ℕ
      lead = lead_in rules.rows t

      next : Slots → Verdict
      next = rounds rules round 4 (1 + lead)

      go : Stretched rules lead 1 next t → LateFrom 1 r c t
      go (inl x) =
          let same = same_late (sym x.4 ∙ e) in
          (x.0, sym same.1, subst (LateIn rules t x.0) same.0 x.3)
      go (inr y) =
          let x = late_rounds round 4 (1 + lead) r c (after rules lead t) (sym y.1 ∙ e) in
          (lead + x.0, x.1 ∙ add_assoc 1 lead x.0, late_then lead x.0 r t y.0 x.2)

  pub first_late_when_late : (round r c : ℕ) (t : Slots) → verdict rules round t ≡ Late r c → FirstLate rules t r c
  first_late_when_late round r c t e =
      let x = first_of_verdict round r c t e in
      let back : c - 1 ≡ x.0 = omega (arith, x.1) in
      record {
        counted = omega (arith, x.1);
        late = ap (λ k. late_row rules (after rules k t)) back ∙ x.2.late;
        quiet = λ k h. x.2.quiet k (omega arith);
      }

-- the round divides each period, so that the rehearsal's verdict can be believed
divided_by_round : (limit n m : ℕ) (t : Slots) → Within n t → round limit n t ≡ Some m → Divided m t
unfolding round
divided_by_round limit n m t within e r =
    ⊎_elim
    (λ (inside : r < n). every_at n (λ k. divided_by (t k) m) (first_some limit 1 (λ k. every n (λ i. divided_by (t i) k)) m e).passes r inside)
    (λ (past : n ≤ r). ap (λ a. divided_by a m) (within r past))
    (cases_lt r n)

round_some : (limit n m : ℕ) (t : Slots) → round limit n t ≡ Some m → 0 < m
unfolding round
round_some limit n m t e = (first_some limit 1 (λ k. every n (λ i. divided_by (t i) k)) m e).above

pub calm_when_rehearsed : (goes : Order) (n window limit m : ℕ) (t : Slots) → Within n t → Sound t → round limit n t ≡ Some m
    → verdict (record { goes = goes; window = window; rows = n }) m t ≡ Settled → Calm (record { goes = goes; window = window; rows = n }) t
calm_when_rehearsed goes n window limit m t within st is v =
    calm_when_settled goes n window m (round_some limit n m t is) t (record { within = within; sound = st; divided = divided_by_round limit n m t within is }) v

-- a slot that goes round for a multiple of its period is at the same point again
pub waits_back : WaitsComeBack
waits_back rules t cycles st within div r =
    let u = after rules (lead_in rules.rows t) t in
    subst (λ v. SameTurn (v r) (u r)) (sym (after_add rules (lead_in rules.rows t) cycles t))
    (go u (regular_lead rules rules.rows t within st) (divided_after rules cycles (lead_in rules.rows t) t div) (u r) refl (after rules cycles u r) refl)
  where
    same : (x : Row) (b : Option Row) → Holds x.figures x.wait b → SameTurn b (Some x)
    same x None h = absurd h
    same x (Some y) h = h

    go : (u : Slots) → Regular u → Divided cycles u → (a : Option Row) → u r ≡ a → (b : Option Row) → after rules cycles u r ≡ b → SameTurn b a
    go u reg d None ea b eb = subst (λ v. SameTurn v None) (sym (after_empty rules cycles u r ea) ∙ eb) tt
    go u reg d (Some x) ea b eb =
        same x b
        (subst₂ (Holds x.figures) (turned x.figures.period cycles x.wait (subst RegularSlot ea (reg r)) (subst (λ a. divided_by a cycles ≡ true) ea (d r))) eb
        (held_after rules cycles u r x ea))
