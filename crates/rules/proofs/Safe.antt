-- Tables that are never late: kept by cycles and reliefs, won by a rehearsal that settles. Assumes nothing.
use Rattle.std.proofs.Common.{◌≡◌, ℕ, suc, ◌<◌, ◌≤◌, true, false, cond, eqb, [], Some, None, Ok, Err, Option, Result, refl, ap, ◌∙◌, ⊎_elim, le_refl, arith}
use Rattle.std.specs.Option.{option_map}
use Rattle.std.proofs.lemmas.Bool.{cases_lt}
use Rattle.bus.specs.Refusals.{Told, numbered}
use Rattle.orders.specs.Laws.{Order}
use Rattle.engine.specs.declared.row.Row.{Row}
use Rattle.engine.specs.declared.verdict.Verdict.{Verdict}
use Rattle.engine.specs.declared.verdict.Verdict.TheVariants.{Settled, Late, Unsettled}
use Rattle.engine.specs.Rows.{released, misses}
use Rattle.engine.specs.Comparison.{SoundSlot, Sound, LighterSlot, Lighter, Calm}
use Rattle.engine.specs.Cycle.{Slots, Rules, used_and, release, scheduled, cycle, late, after}
use Rattle.engine.specs.Rehearsal.{every, divided_by, round, verdict}
use Rattle.engine.proofs.Calm.{calm_lighter}
use Rattle.engine.proofs.Firsts.{First, first_some}
use Rattle.engine.proofs.Lighter.{cycle_sound}
use Rattle.engine.proofs.Rehearsed.{Within, Ready, calm_when_settled}
use Rattle.engine.proofs.Tests.{every_at}
use Rattle.engine.proofs.Turns.{after_empty}
use Rattle.rules.specs.Calls.{State, Outcome, put, rules_of, judged, rehearsed}
use Rattle.rules.proofs.Ties.{put_other}

pub record Safe (rules : Rules) (t : Slots) : Type 0 where
  pub within : Within rules.rows t
  pub sound : Sound t
  pub calm : Calm rules t

-- a table with no used row
pub safe_empty : (rules : Rules) → Safe rules (λ r. None)
unfolding late
safe_empty rules =
    record {
      within = λ r h. refl;
      sound = λ r. tt;
      calm = λ k r. ap (λ a. used_and (misses (scheduled rules (release (after rules k (λ q. None))) r)) (option_map released a)) (after_empty rules k (λ q. None) r refl);
    }

pub safe_next : (rules : Rules) (t : Slots) → Safe rules t → Safe rules (cycle rules t)
unfolding after
safe_next rules t safe =
    record {
      within = λ r h. after_empty rules 1 t r (safe.within r h);
      sound = cycle_sound rules t safe.sound;
      calm = λ k r. safe.calm (suc k) r;
    }

-- one row is changed
pub put_slots : (Q : Option Row → Type 0) (r : ℕ) (a : Option Row) (t : Slots) → Q a → ((k : ℕ) → Q (t k)) → (k : ℕ) → Q (put r a t k)
put_slots Q r a t new old k = elim (eqb k r) as (λ b. Q (cond b a (t k))) [ true ↦ new | false ↦ old k ]

pub put_within : (n r : ℕ) (a : Option Row) (t : Slots) → r < n → Within n t → Within n (put r a t)
put_within n r a t low within k past = put_other r k a t (λ e. omega arith) ∙ within k past

pub lighter_itself : (t : Slots) → Lighter t t
lighter_itself t r = slot (t r)
  where
    slot : (a : Option Row) → LighterSlot a a
    slot None = tt
    slot (Some x) = record { figures = refl; wait = refl; waits = λ h. h }

pub lighter_without : (r : ℕ) (t : Slots) → Lighter (put r None t) t
lighter_without r t k = elim (eqb k r) as (λ b. LighterSlot (cond b None (t k)) (t k)) [ true ↦ tt | false ↦ lighter_itself t k ]

module _ (goes : Order) (n window : ℕ) (t : Slots) where
  pub safe_without : (r : ℕ) → r < n → Safe (record { goes = goes; window = window; rows = n }) t → Safe (record { goes = goes; window = window; rows = n }) (put r None t)
  safe_without r low safe =
      let fine : Sound (put r None t) = put_slots SoundSlot r None t tt safe.sound in
      record {
        within = put_within n r None t low safe.within;
        sound = fine;
        calm = calm_lighter goes n window window (le_refl window) (put r None t) t fine safe.sound (lighter_without r t) safe.calm;
      }

  pub safe_wider : (wide : ℕ) → window ≤ wide → Safe (record { goes = goes; window = window; rows = n }) t → Safe (record { goes = goes; window = wide; rows = n }) t
  safe_wider wide wider safe =
      record {
        within = safe.within;
        sound = safe.sound;
        calm = calm_lighter goes n wide window wider t t safe.sound safe.sound (lighter_itself t) safe.calm;
      }

-- a refusal is no state
pub err_is_ok : {S : Type 0} {e : Told} {s : S} → ◌≡◌ {A = Result S Told} (Err e) (Ok s) → ⊥
err_is_ok h = cc

pub same_ok : {S : Type 0} {s s' : S} → ◌≡◌ {A = Result S Told} (Ok s) (Ok s') → s ≡ s'
same_ok h = cc

-- a rehearsal takes the state as it is, or none
module _ {P : Type 0} (goes : P → Order) (rows limit : ℕ) (s s' : State P) where
  judged_takes : (v : Verdict) → judged goes rows limit s v ≡ Ok s' → s ≡ s'
  judged_takes Settled h = same_ok h
  judged_takes (Late r c) h = absurd (err_is_ok h)
  judged_takes Unsettled h = absurd (err_is_ok h)

  pub rehearsed_takes : rehearsed goes rows limit s ≡ Ok s' → s ≡ s'
  unfolding rehearsed
  rehearsed_takes = by_round (round limit rows s.slots)
    where
      by_round : (o : Option ℕ) → elim o as (λ _. Outcome P) [ None ↦ Err (numbered 6 []) | Some m ↦ judged goes rows limit s (verdict (rules_of goes rows limit s) m s.slots) ] ≡ Ok s' → s ≡ s'
      by_round None h = absurd (err_is_ok h)
      by_round (Some m) h = judged_takes (verdict (rules_of goes rows limit s) m s.slots) h

-- a rehearsal that settles makes the table safe
module _ {P : Type 0} (goes : P → Order) (rows limit : ℕ) (s s' : State P) (within : Within rows s.slots) (fine : Sound s.slots) where
  abbrev rules : Rules
  rules = rules_of goes rows limit s

  abbrev Won : Type 0
  Won = (s ≡ s') × Safe rules s.slots

  divides : (m : ℕ) → round limit rows s.slots ≡ Some m → First limit 1 (λ k. every rows (λ r. divided_by (s.slots r) k)) m
  unfolding round
  divides m e = first_some limit 1 (λ k. every rows (λ r. divided_by (s.slots r) k)) m e

  ready : (m : ℕ) → round limit rows s.slots ≡ Some m → Ready rows m s.slots
  ready m e =
      record {
        within = within;
        sound = fine;
        divided = λ r. ⊎_elim
            (λ (low : r < rows). every_at rows (λ q. divided_by (s.slots q) m) (divides m e).passes r low)
            (λ (past : rows ≤ r). ap (λ a. divided_by a m) (within r past))
            (cases_lt r rows);
      }

  by_verdict : (m : ℕ) → round limit rows s.slots ≡ Some m → (v : Verdict) → verdict rules m s.slots ≡ v → judged goes rows limit s v ≡ Ok s' → Won
  by_verdict m e Settled is h =
      (same_ok h, record { within = within; sound = fine; calm = calm_when_settled (goes s.policy) rows s.window m (divides m e).above s.slots (ready m e) is })
  by_verdict m e (Late r c) is h = absurd (err_is_ok h)
  by_verdict m e Unsettled is h = absurd (err_is_ok h)

  pub rehearsed_safe : rehearsed goes rows limit s ≡ Ok s' → Won
  unfolding rehearsed
  rehearsed_safe h = go (round limit rows s.slots) refl h
    where
      go : (o : Option ℕ) → round limit rows s.slots ≡ o → elim o as (λ _. Outcome P) [ None ↦ Err (numbered 6 []) | Some m ↦ judged goes rows limit s (verdict rules m s.slots) ] ≡ Ok s' → Won
      go None e h = absurd (err_is_ok h)
      go (Some m) e h = by_verdict m e (verdict rules m s.slots) refl h
