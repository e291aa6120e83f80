-- The table of a master has a round within the limit. Assumes nothing.
use Rattle.std.proofs.Common.{◌≡◌, ℕ, ◌%◌, ◌<◌, Bool, true, false, cond, eqb, leb, ◌≢◌, List, [], ◌∷◌, is_some, Some, None, Ok, Err, Option, sym, refl, ap, subst, arith}
use Rattle.std.specs.Option.{option_map}
use Rattle.std.proofs.lemmas.Bool.{false≢true, both_ways}
use Rattle.bus.specs.Refusals.{numbered}
use Rattle.orders.specs.Laws.{Order}
use Rattle.engine.specs.declared.row.Row.{Row}
use Rattle.engine.specs.declared.verdict.Verdict.{Verdict}
use Rattle.engine.specs.declared.verdict.Verdict.TheVariants.{Settled, Late, Unsettled}
use Rattle.engine.specs.Rows.{closed}
use Rattle.engine.specs.Rows.{released as row_released}
use Rattle.engine.specs.Cycle.{Slots, Rules, first_of, lowest, release, scheduled, cycle}
use Rattle.engine.specs.Rehearsal.{every, first_from, divided_by, round, verdict}
use Rattle.engine.proofs.Firsts.{First, first_is, first_some, first_none}
use Rattle.engine.proofs.Lighter.{released_figures}
use Rattle.engine.proofs.Tests.{every_at}
use Rattle.rules.specs.Calls.{Call, State, Outcome, fresh, put, refused_if, settle, rules_of, judged, rehearsed, with_window, with_policy, checks, outcome, step, answer, after, run}
use Rattle.rules.specs.Calls.Call.{add, alter, drop, set_window, set_policy, next}
use Rattle.rules.specs.Calls.Answer.{declined}
use Rattle.rules.specs.Promise.{RoundsKnown}
use Rattle.rules.proofs.Keeping.{checked}
use Rattle.rules.proofs.Safe.{err_is_ok, rehearsed_takes, same_ok}
use Rattle.rules.proofs.Sums.{every_from}

-- ROUNDS of tables

module _ (limit rows : ℕ) where
  abbrev pub HasRound : Slots → Type 0
  HasRound t = is_some (round limit rows t) ≡ true

  abbrev divides : Slots → ℕ → Bool
  divides t m = every rows (λ r. divided_by (t r) m)

  round_empty : 0 < limit → HasRound (λ r. None)
  unfolding round
  round_empty some =
      ap is_some
      (first_is limit 1 (divides (λ r. None)) 1
      (record { above = omega arith; below = omega arith; passes = every_from rows _ (λ r h. refl); least = λ k low high. absurd (omega arith) }))

  -- a table whose periods are among another's
  round_less : (t u : Slots) → ((r m : ℕ) → divided_by (t r) m ≡ true → divided_by (u r) m ≡ true) → HasRound t → HasRound u
  unfolding round
  round_less t u less h = go (round limit rows t) refl h
    where
      none : (m : ℕ) → First limit 1 (divides t) m → (o : Option ℕ) → first_from limit 1 (divides u) ≡ o → is_some o ≡ true
      none m f (Some k) is = refl
      none m f None is =
          absurd (both_ways _ (first_none limit 1 (divides u) is m f.above f.below) (every_from rows _ (λ r low. less r m (every_at rows (λ q. divided_by (t q) m) f.passes r low))))

      go : (o : Option ℕ) → round limit rows t ≡ o → is_some o ≡ true → is_some (first_from limit 1 (divides u)) ≡ true
      go None is h = absurd (false≢true h)
      go (Some m) is h = none m (first_some limit 1 (divides t) m is) (first_from limit 1 (divides u)) refl

  round_cycle : (rules : Rules) (t : Slots) → HasRound t → HasRound (cycle rules t)
  unfolding cycle
  round_cycle rules t = round_less t (cycle rules t) (λ r m h. slot (scheduled rules (release t) r) (t r) m h)
    where
      slot : (s : Bool) (a : Option Row) (m : ℕ) → divided_by a m ≡ true → divided_by (option_map (closed s) (option_map row_released a)) m ≡ true
      slot s None m h = h
      slot s (Some x) m h = subst (λ f. eqb (m % f.period) 0 ≡ true) (sym (released_figures x)) h

  round_drop : (r : ℕ) (t : Slots) → HasRound t → HasRound (put r None t)
  round_drop r t = round_less t (put r None t) (λ k m h. elim (eqb k r) as (λ b. divided_by (cond b None (t k)) m ≡ true) [ true ↦ refl | false ↦ h ])

-- EVERY LIST of calls

module _ {P : Type 0} (goes : P → Order) (rows limit : ℕ) where
  abbrev Known : State P → Type 0
  Known s = HasRound limit rows s.slots

  rehearsed_known : (s s' : State P) → rehearsed goes rows limit s ≡ Ok s' → Known s'
  unfolding rehearsed
  rehearsed_known s s' h = subst Known (rehearsed_takes goes rows limit s s' h) (by_round (round limit rows s.slots) h)
    where
      by_round : (o : Option ℕ) → elim o as (λ _. Outcome P) [ None ↦ Err (numbered 6 []) | Some m ↦ judged goes rows limit s (verdict (rules_of goes rows limit s) m s.slots) ] ≡ Ok s' → is_some o ≡ true
      by_round None h = absurd (err_is_ok h)
      by_round (Some m) h = refl

  module _ (s : State P) (known : Known s) where
    made_known : (call : Call P) (s' : State P) → outcome goes rows limit s call ≡ Ok s' → Known s'
    unfolding outcome
    made_known (add r f) s' e = rehearsed_known _ s' e
    made_known (alter r f) s' e = rehearsed_known _ s' e
    made_known (drop r) s' e = subst Known (same_ok e) (round_drop limit rows r s.slots known)
    made_known (set_window w) s' e = go (leb s.window w) e
      where
        go : (b : Bool) → elim b as (λ _. Outcome P) [ true ↦ Ok (with_window goes rows limit s w) | false ↦ rehearsed goes rows limit (with_window goes rows limit s w) ] ≡ Ok s' → Known s'
        go true e = subst Known (same_ok e) known
        go false e = rehearsed_known _ s' e
    made_known (set_policy p) s' e = rehearsed_known _ s' e
    made_known (next report) s' e = subst Known (same_ok e) (round_cycle limit rows (rules_of goes rows limit s) s.slots known)

    changed_known : (call : Call P) (o : Outcome P) → ((s' : State P) → o ≡ Ok s' → Known s') → Known (settle s o).state
    changed_known call (Ok s') h = h s' refl
    changed_known call (Err told) h = known

    by_checks : (call : Call P) → Known (settle s (elim (checks goes rows limit s call) as (λ _. Outcome P) [ Some told ↦ Err told | None ↦ outcome goes rows limit s call ])).state
    by_checks call = changed_known call _ (λ s' e. made_known call s' (checked (checks goes rows limit s call) _ s' e).1)

    call_known : (call : Call P) → Known (after goes rows limit s call)
    unfolding step
    call_known (add r f) = by_checks (add r f)
    call_known (alter r f) = by_checks (alter r f)
    call_known (drop r) = by_checks (drop r)
    call_known (set_window w) = by_checks (set_window w)
    call_known (set_policy p) = by_checks (set_policy p)
    call_known (next report) = round_cycle limit rows (rules_of goes rows limit s) s.slots known

  list_known : (calls : List (Call P)) (s : State P) → Known s → Known (run goes rows limit s calls)
  unfolding run
  list_known [] s known = known
  list_known (call ∷ calls) s known = list_known calls (after goes rows limit s call) (call_known s known call)

  -- REFUSALS by their numbers

  abbrev number_of : Outcome P → ℕ
  number_of (Ok s) = 0
  number_of (Err told) = told.number

  other_number : (s : State P) (o : Outcome P) → (number_of o ≡ 6 → ⊥) → (settle s o).answer ≢ declined (numbered 6 [])
  other_number s (Ok s') h e = cc
  other_number s (Err told) h e = let same : told ≡ numbered 6 [] = cc in h (ap (λ t. t.number) same)

  -- a rehearsal of a table that has a round
  rehearsed_number : (s : State P) → Known s → number_of (rehearsed goes rows limit s) ≡ 6 → ⊥
  unfolding rehearsed
  rehearsed_number s known = go (round limit rows s.slots) known
    where
      by_verdict : (v : Verdict) → number_of (judged goes rows limit s v) ≡ 6 → ⊥
      by_verdict Settled e = omega arith
      by_verdict (Late r c) e = omega arith
      by_verdict Unsettled e = omega arith

      go : (o : Option ℕ) → is_some o ≡ true → number_of (elim o as (λ _. Outcome P) [ None ↦ Err (numbered 6 []) | Some m ↦ judged goes rows limit s (verdict (rules_of goes rows limit s) m s.slots) ]) ≡ 6 → ⊥
      go None h e = absurd (false≢true h)
      go (Some m) h e = by_verdict (verdict (rules_of goes rows limit s) m s.slots) e

  policy_number : (s : State P) → Known s → (q : P) → answer goes rows limit s (set_policy q) ≢ declined (numbered 6 [])
  unfolding step checks outcome
  policy_number s known q = other_number s (rehearsed goes rows limit (with_policy goes rows limit s q)) (rehearsed_number (with_policy goes rows limit s q) known)

  window_number : (s : State P) → Known s → (w : ℕ) → answer goes rows limit s (set_window w) ≢ declined (numbered 6 [])
  unfolding step checks outcome
  window_number s known w = other_number s _ (go (eqb w 0) (leb s.window w) (lowest rows _))
    where
      go : (zero_wide wider : Bool) (above : Option ℕ)
          → number_of (elim (first_of (refused_if zero_wide (numbered 4 (4 ∷ []))) (first_of (cond wider None (option_map (λ r. numbered 5 (r ∷ [])) above)) None)) as (λ _. Outcome P)
          [ Some told ↦ Err told | None ↦ elim wider as (λ _. Outcome P) [ true ↦ Ok (with_window goes rows limit s w) | false ↦ rehearsed goes rows limit (with_window goes rows limit s w) ] ]) ≡ 6 → ⊥
      go true wider above e = omega arith
      go false true above e = omega arith
      go false false None e = rehearsed_number (with_window goes rows limit s w) known e
      go false false (Some r) e = omega arith

  pub rounds_known : 0 < limit → RoundsKnown goes rows limit
  rounds_known some =
      record {
        policy = λ p calls q. policy_number _ (list_known calls (fresh p) (round_empty limit rows some)) q;
        window = λ p calls w. window_number _ (list_known calls (fresh p) (round_empty limit rows some)) w;
      }
