-- What a change is judged to come to, with nothing changed yet. Assumes nothing.
use Rattle.std.specs.Prelude.{◌≡◌, ℕ, List, [], ◌∷◌, Some, None, Ok, Err, Option, Result}
use Rattle.bus.specs.declared.refusal.Refusal.{Refusal}
use Rattle.bus.specs.Refusals.{told}
use Rattle.orders.specs.Laws.{Order}
use Rattle.engine.specs.declared.row.Figures.{Figures}
use Rattle.engine.specs.declared.row.Row.{Row}
use Rattle.engine.specs.Held.{slots}
use Rattle.rules.specs.Calls.{Call, State, Outcome, first_refusal, in_range, within_window, new_row, put, with_slots, rehearsed, checks, outcome}
use Rattle.ftt.specs.declared.master.Master.{Master}
use Rattle.ftt.specs.Held.{standing}

abbrev pub state_of : {P : Type 0} → List (Option Row) → (window : ℕ) → P → (lost : ℕ) → State P
state_of rows window policy lost = record { slots = slots rows; window = window; policy = policy; lost = lost }

-- the state with one row changed
abbrev pub with_slot : {P : Type 0} → ℕ → Option Row → State P → State P
with_slot r slot s = record { slots = put r slot s.slots; window = s.window; policy = s.policy; lost = s.lost }

-- a result as the rules have it: the state that its value makes, or the refusal
abbrev pub told_outcome : {P T : Type 0} → (T → State P) → Result T Refusal → Outcome P
told_outcome makes (Ok x) = Ok (makes x)
told_outcome makes (Err e) = Err (told e)

-- by the rules of a master: 32 rows, and rounds of up to 5040 cycles
module _ {P : Type 0} (goes : P → Order) where
  -- what a call comes to: the first refusal of its checks, or its outcome
  abbrev pub comes_to : State P → Call P → Outcome P
  comes_to s call = elim (checks goes 32 5040 s call) [ Some told ↦ Err told | None ↦ outcome goes 32 5040 s call ]

  -- what a new message on a row comes to, whatever the row held
  abbrev pub message_comes_to : State P → ℕ → Figures → Outcome P
  message_comes_to s r f =
      elim (first_refusal (in_range f ∷ within_window s.window r f ∷ [])) [
        | Some told ↦ Err told
        | None ↦ rehearsed goes 32 5040 (with_slots goes 32 5040 s (put r (Some (new_row f)) s.slots))
      ]

  -- a result tells what a call to a master comes to, whatever the count of lost triggers
  abbrev pub Judges : {T : Type 0} → Master P → Call P → (T → State P → State P) → Result T Refusal → Type 0
  Judges m call makes result = (lost : ℕ) → told_outcome (λ x. makes x (standing m lost)) result ≡ comes_to (standing m lost) call
