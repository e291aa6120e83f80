-- Every change and every cycle keeps the rows sound and the window open. Assumes nothing.
use Rattle.std.proofs.Common.{◌≡◌, ℕ, zero, suc, ◌≤◌, Bool, true, false, leb, List, replicate, Some, None, Ok, Option, sym, refl, subst, inl, inr, arith}
use mathlib.Core.Path.{fun_ext}
use Rattle.std.proofs.lemmas.Bool.{cases_lt}
use Rattle.std.proofs.lemmas.List.{get_or_past, get_or-replicate, length-replicate}
use Rattle.orders.specs.Laws.{Order}
use Rattle.engine.specs.declared.row.Figures.{Figures}
use Rattle.engine.specs.declared.row.Row.{Row}
use Rattle.engine.specs.Rows.{sound}
use Rattle.engine.specs.Cycle.{Slots, Rules, cycle}
use Rattle.engine.specs.Held.{slots}
use Rattle.engine.specs.Comparison.{Sound, SoundSlot}
use Rattle.engine.proofs.Lighter.{cycle_sound}
use Rattle.rules.specs.Calls.{State, Call, Outcome, new_row, put, in_range, width_in_range, with_window, rehearsed, checks, outcome}
use Rattle.rules.specs.Calls.Call.{add, alter, drop, set_window, set_policy, next}
use Rattle.rules.proofs.Keeping.{checked, first_none, new_sound}
use Rattle.rules.proofs.Safe.{put_slots, rehearsed_takes, same_ok}
use Rattle.ftt.specs.Held.{standing}
use Rattle.ftt.specs.Judged.{comes_to}
use Rattle.ftt.specs.declared.master.Master.{Master}

-- every used row is sound, one by one
abbrev pub EachSound : Slots → Type 0
EachSound t = (r : ℕ) (row : Row) → t r ≡ Some row → sound row ≡ true

each_sound : (t : Slots) → Sound t → EachSound t
each_sound t fine r row is = subst SoundSlot is (fine r)

sound_each : (t : Slots) → EachSound t → Sound t
sound_each t each r = slot (t r) (each r)
  where
    slot : (a : Option Row) → ((row : Row) → a ≡ Some row → sound row ≡ true) → SoundSlot a
    slot None h = tt
    slot (Some row) h = h row refl

-- the rows of a new master
pub no_rows : slots (replicate 32 None) ≡ λ r. None
no_rows =
    fun_ext λ r.
    elim (cases_lt r 32) [
      | inl in_rows ↦ get_or-replicate 32 r None None in_rows
      | inr past ↦ get_or_past (replicate {A = Option Row} 32 None) r None (omega (arith, length-replicate {A = Option Row} 32 None))
    ]

pub none_sound : EachSound (slots (replicate 32 None))
none_sound = each_sound _ (subst Sound (sym no_rows) (λ r. tt))

-- the rows after a cycle
pub cycled_sound : {P : Type 0} (rules : Rules) (m : Master P) (new : List (Option Row)) → slots new ≡ cycle rules (slots m.rows) → EachSound (slots new)
cycled_sound rules m new is = each_sound (slots new) (subst Sound (sym is) (cycle_sound rules (slots m.rows) (sound_each _ m.sound)))

-- what a master's state keeps
record Fit {P : Type 0} (s : State P) : Type 0 where
  sound : Sound s.slots
  «open» : 1 ≤ s.window

width_above : (w : ℕ) → width_in_range w ≡ None → 1 ≤ w
width_above zero e = absurd (cc)
width_above (suc w) e = omega arith

module _ {P : Type 0} (goes : P → Order) (s : State P) (fit : Fit s) where
  -- the same window, and one row with another message
  with_message : (r : ℕ) (f : Figures) (new : State P) → in_range f ≡ None → rehearsed goes 32 5040 (record { slots = put r (Some (new_row f)) s.slots; window = s.window; policy = s.policy; lost = s.lost }) ≡ Ok new → Fit new
  with_message r f new fine e =
      subst Fit (rehearsed_takes goes 32 5040 _ new e)
      (record { sound = put_slots SoundSlot r (Some (new_row f)) s.slots (new_sound f fine) fit.sound; «open» = fit.«open» })

  with_width : (w : ℕ) (new : State P) → 1 ≤ w → (wider : Bool) → elim wider as (λ _. Outcome P) [ true ↦ Ok (with_window goes 32 5040 s w) | false ↦ rehearsed goes 32 5040 (with_window goes 32 5040 s w) ] ≡ Ok new → Fit new
  with_width w new above wider e = subst Fit (same wider e) (record { sound = fit.sound; «open» = above })
    where
      same : (wider : Bool) → elim wider as (λ _. Outcome P) [ true ↦ Ok (with_window goes 32 5040 s w) | false ↦ rehearsed goes 32 5040 (with_window goes 32 5040 s w) ] ≡ Ok new → with_window goes 32 5040 s w ≡ new
      same true e = same_ok e
      same false e = rehearsed_takes goes 32 5040 _ new e

  made_fit : (call : Call P) (new : State P) → Ok new ≡ comes_to goes s call → Fit new
  unfolding checks outcome
  made_fit (add r f) new is =
      let made = checked (checks goes 32 5040 s (add r f)) _ new (sym is) in
      let past = first_none _ _ (first_none _ _ made.0).1 in
      with_message r f new (first_none _ _ past.1).0 made.1
  made_fit (alter r f) new is =
      let made = checked (checks goes 32 5040 s (alter r f)) _ new (sym is) in
      let past = first_none _ _ (first_none _ _ made.0).1 in
      with_message r f new (first_none _ _ past.1).0 made.1
  made_fit (drop r) new is =
      let made = checked (checks goes 32 5040 s (drop r)) _ new (sym is) in
      subst Fit (same_ok made.1) (record { sound = put_slots SoundSlot r None s.slots tt fit.sound; «open» = fit.«open» })
  made_fit (set_window w) new is =
      let made = checked (checks goes 32 5040 s (set_window w)) _ new (sym is) in
      with_width w new (width_above w (first_none _ _ made.0).0) (leb s.window w) made.1
  made_fit (set_policy p) new is = subst Fit (rehearsed_takes goes 32 5040 _ new (sym is)) (record { sound = fit.sound; «open» = fit.«open» })
  made_fit (next report) new is =
      subst Fit (same_ok (sym is)) (record { sound = cycle_sound _ s.slots fit.sound; «open» = fit.«open» })

-- what a master keeps, after a change
pub record Kept {P : Type 0} (s : State P) : Type 0 where
  pub sound : EachSound s.slots
  pub «open» : 1 ≤ s.window

pub kept : {P : Type 0} (goes : P → Order) (m : Master P) (call : Call P) (new : State P) → Ok new ≡ comes_to goes (standing m 0) call → Kept new
kept goes m call new is =
    let fit = made_fit goes (standing m 0) (record { sound = sound_each _ m.sound; «open» = m.«open» }) call new is in
    record { sound = each_sound _ fit.sound; «open» = fit.«open» }
