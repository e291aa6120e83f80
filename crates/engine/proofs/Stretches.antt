-- A stretch and the rounds of a rehearsal, one step at a time. Assumes nothing.
use Rattle.std.proofs.Common.{◌≡◌, ℕ, suc, ◌+◌, ◌-◌, ◌<◌, ◌≤◌, Bool, true, false, Some, None, Option, sym, ap, ◌∙◌, arith}
use Rattle.engine.specs.declared.verdict.Verdict.{Verdict}
use Rattle.engine.specs.declared.verdict.Verdict.TheVariants.{Settled, Late, Unsettled}
use Rattle.engine.specs.Cycle.{Slots, Rules, cycle, late_row}
use Rattle.engine.specs.Rehearsal.{lead_in, settled, stretch, rounds, verdict}

module _ (rules : Rules) where
  -- the first cycle of a stretch
  pub begins : (k coming : ℕ) (next : Slots → Verdict) (t : Slots) (l : Option ℕ) → late_row rules t ≡ l
      → stretch rules (suc k) coming next t ≡ elim l [ Some r ↦ Late r coming | None ↦ stretch rules k (coming + 1) next (cycle rules t) ]
  unfolding stretch
  begins k coming next t l e = ap (λ (v : Option ℕ). elim v as (λ _. Verdict) [ Some r ↦ Late r coming | None ↦ stretch rules k (coming + 1) next (cycle rules t) ]) e

  -- the same of what is left of n cycles once d are done
  pub ends_late : (n d coming : ℕ) (next : Slots → Verdict) (t : Slots) (r : ℕ) → d < n → late_row rules t ≡ Some r → stretch rules (n - d) coming next t ≡ Late r coming
  ends_late n d coming next t r h e =
      let more : n - d ≡ suc (n - (d + 1)) = omega arith in
      ap (λ k. stretch rules k coming next t) more ∙ begins (n - (d + 1)) coming next t (Some r) e

  pub goes_on : (n d coming : ℕ) (next : Slots → Verdict) (t : Slots) → d < n → late_row rules t ≡ None
      → stretch rules (n - d) coming next t ≡ stretch rules (n - (d + 1)) (coming + 1) next (cycle rules t)
  goes_on n d coming next t h e =
      let more : n - d ≡ suc (n - (d + 1)) = omega arith in
      ap (λ k. stretch rules k coming next t) more ∙ begins (n - (d + 1)) coming next t None e

  pub is_over : (n d coming : ℕ) (next : Slots → Verdict) (t : Slots) → n ≤ d → stretch rules (n - d) coming next t ≡ next t
  unfolding stretch
  is_over n d coming next t h = let none : n - d ≡ 0 = omega arith in ap (λ k. stretch rules k coming next t) none

  -- what follows a round
  abbrev pub then_on : (round left coming : ℕ) → Slots → Slots → Verdict
  then_on round left coming t u = elim (settled rules.rows t u) [ true ↦ Settled | false ↦ rounds rules round left (coming + round) u ]

  pub next_round : (round d coming : ℕ) (t : Slots) → d < 4 → rounds rules round (4 - d) coming t ≡ stretch rules round coming (then_on round (4 - (d + 1)) coming t) t
  unfolding rounds
  next_round round d coming t h = let more : 4 - d ≡ suc (4 - (d + 1)) = omega arith in ap (λ k. rounds rules round k coming t) more

  pub no_round : (round d coming : ℕ) (t : Slots) → 4 ≤ d → rounds rules round (4 - d) coming t ≡ Unsettled
  unfolding rounds
  no_round round d coming t h = let none : 4 - d ≡ 0 = omega arith in ap (λ k. rounds rules round k coming t) none

  pub settles : (round left coming : ℕ) (t u : Slots) → settled rules.rows t u ≡ true → then_on round left coming t u ≡ Settled
  settles round left coming t u e = ap (λ (b : Bool). elim b as (λ _. Verdict) [ true ↦ Settled | false ↦ rounds rules round left (coming + round) u ]) e

  pub goes_round : (round left coming : ℕ) (t u : Slots) → settled rules.rows t u ≡ false → then_on round left coming t u ≡ rounds rules round left (coming + round) u
  goes_round round left coming t u e = ap (λ (b : Bool). elim b as (λ _. Verdict) [ true ↦ Settled | false ↦ rounds rules round left (coming + round) u ]) e

  -- the lead-in decides, or the rounds do
  pub verdict_by_lead : (round lead : ℕ) (t : Slots) (v : Verdict) → lead ≡ lead_in rules.rows t → ((next : Slots → Verdict) → stretch rules lead 1 next t ≡ v) → v ≡ verdict rules round t
  unfolding verdict
  verdict_by_lead round lead t v e ends = sym (ends (rounds rules round 4 (1 + lead))) ∙ ap (λ l. stretch rules l 1 (rounds rules round 4 (1 + l)) t) e

  pub verdict_by_rounds : (round lead : ℕ) (t u : Slots) (v : Verdict) → lead ≡ lead_in rules.rows t → ((next : Slots → Verdict) → stretch rules lead 1 next t ≡ next u) → v ≡ rounds rules round 4 (1 + lead) u → v ≡ verdict rules round t
  unfolding verdict
  verdict_by_rounds round lead t u v e over is = is ∙ sym (over (rounds rules round 4 (1 + lead))) ∙ ap (λ l. stretch rules l 1 (rounds rules round 4 (1 + l)) t) e
