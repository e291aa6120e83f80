-- What the questions to a master ask. Assumes nothing.
use Rattle.std.specs.Prelude.{◌≡◌, ℕ, ◌<◌, cond, List, [], length, Some, None, Ok, Err, Option, Result, nat_le, slice_index}
use Rattle.std.specs.Option.{option_map}
use Rattle.bus.specs.Refusals.{Told, numbered}
use Rattle.orders.specs.Laws.{Order}
use Rattle.engine.specs.declared.row.Figures.{Figures}
use Rattle.engine.specs.declared.row.Row.{Row}
use Rattle.engine.specs.Cycle.{Slots, word, after}
use Rattle.engine.specs.Held.{slots, rules_of}
use Rattle.ftt.specs.declared.change.Change.{Change}
use Rattle.ftt.specs.declared.change.Change.TheVariants.{Add, Alter, Drop, Window, Policy}
use Rattle.ftt.specs.declared.master.Master.{Master}
use Rattle.rules.specs.Calls.{Call}
use Rattle.rules.specs.Calls.Call.{add, alter, drop, set_window, set_policy}

-- the call that makes a change
abbrev pub call_of : {P : Type 0} → Change P → Call P
call_of (Add row figures) = add row figures
call_of (Alter row figures) = alter row figures
call_of (Drop row) = drop row
call_of (Window window) = set_window window
call_of (Policy policy) = set_policy policy

-- the figures of a row that is asked for
abbrev pub asked : (rows : ℕ) → Slots → ℕ → Result Figures Told
asked rows t r = cond (nat_le rows r) (Err (numbered 1 [])) (elim (t r) [ None ↦ Err (numbered 3 []) | Some row ↦ Ok row.figures ])

-- each word is the schedule of its cycle, the coming one first, if no change comes between
abbrev pub Planned : {P : Type 0} → (P → Order) → Master P → List ℕ → Type 0
Planned goes m words =
    (k : ℕ) → k < length words → slice_index words k ≡ word (rules_of (goes m.policy) m.window) (after (rules_of (goes m.policy) m.window) k (slots m.rows))

abbrev pub figures_of : Option Row → Option Figures
figures_of a = option_map (λ row. row.figures) a

-- the windows, the used rows and their figures agree; the counters play no part
pub record Alike {P : Type 0} (a b : Master P) : Type 0 where
  pub window : a.window ≡ b.window
  pub figures : (r : ℕ) → figures_of (slots a.rows r) ≡ figures_of (slots b.rows r)
