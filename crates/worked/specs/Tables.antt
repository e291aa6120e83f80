-- Worked tables: what is asked of the rules, and what they tell. Assumes nothing.
use Rattle.std.specs.Prelude.{◌≡◌, ℕ, Bool, ◌||◌, List, [], ◌∷◌, ◌++◌, map, Some, Ok, Err, Option, Result, ◌==◌}
use Rattle.std.specs.List.{range_with_len}
use Rattle.bus.specs.Frames.{frame_answer}
use Rattle.bus.specs.Refusals.{Told, numbered}
use Rattle.bus.specs.Rows.{word_of}
use Rattle.bus.specs.Triggers.{trigger_bytes}
use Rattle.orders.specs.Coded.{order_of}
use Rattle.orders.specs.declared.selector.Selector.{Selector}
use Rattle.orders.specs.declared.selector.Selector.TheVariants.{RateMonotonic, EarliestDeadline}
use Rattle.engine.specs.Cycle.{Slots}
use Rattle.engine.specs.Held.{slots}
use Rattle.engine.specs.Rehearsal.{round}
use Rattle.engine.specs.declared.row.Figures.{Figures}
use Rattle.rules.specs.Calls.{Call, Answer, fresh, new_row, history}
use Rattle.rules.specs.Calls.Call.{add, set_window, set_policy, next}
use Rattle.rules.specs.Calls.Answer.{made, declined, schedule}
use Rattle.rules.specs.Calls.Report.{sent}

-- a message of so many units that is due by its next release
abbrev pub message : (units period phase : ℕ) → Figures
message u p ph = record { duration = u; period = p; deadline = p; phase = ph; priority = 0 }

-- the answers to a list of calls to a fresh master over the selector
abbrev pub answers : Selector → List (Call Selector) → List Answer
answers policy calls = map (λ x. x.1) (history order_of 32 5040 (fresh policy) calls)

-- so many cycles, whose triggers are sent
abbrev pub cycles : ℕ → List (Call Selector)
cycles n = map (λ c. next sent) (range_with_len 0 n)

-- three messages that fill a window of 10, a fourth that rate monotonic cannot take, and earliest deadline can
abbrev pub full_window : List (Call Selector)
full_window =
    set_window 10
    ∷ add 0 (message 10 3 0)
    ∷ add 1 (message 10 4 0)
    ∷ add 2 (message 10 4 0)
    ∷ add 3 (message 10 6 0)
    ∷ set_policy EarliestDeadline
    ∷ add 3 (message 10 6 0)
    ∷ []

-- the two messages that do not fit behind the first go together in the next cycle
abbrev pub three_messages : List (Call Selector)
three_messages = set_window 10 ∷ add 0 (message 6 2 0) ∷ add 1 (message 5 4 0) ∷ add 2 (message 4 4 0) ∷ []

-- a message that never fits beside one of every cycle
abbrev pub crowded_out : List (Call Selector)
crowded_out = set_window 10 ∷ add 0 (message 6 1 0) ∷ add 1 (message 5 4 0) ∷ []

-- sixteen messages that take a cycle each, and a seventeenth
abbrev pub one_too_many : List (Call Selector)
one_too_many = set_window 10 ∷ (map (λ r. add r (message 6 16 r)) (range_with_len 0 16) ++ add 16 (message 6 16 0) ∷ [])

-- two messages with these periods, asked for and as they stand in a table
abbrev pub two_adds : (p q : ℕ) → List (Call Selector)
two_adds p q = add 0 (message 1 p 0) ∷ add 1 (message 1 q 0) ∷ []

abbrev pub two_rows : (p q : ℕ) → Slots
two_rows p q = slots (Some (new_row (message 1 p 0)) ∷ Some (new_row (message 1 q 0)) ∷ [])

-- the set of rows 0, 9 and 31
abbrev pub three_rows : ℕ → Bool
three_rows r = r == 0 || r == 9 || r == 31

-- what a table tells
pub data Entry : Type 0 where
  answered : List Answer → Entry
  -- the round, up to a limit
  repeats : Option ℕ → Entry
  trigger : (bytes : List ℕ) → Entry
  frame : (units : Result ℕ Told) → Entry

abbrev pub asked : List Entry
asked =
    answered (answers RateMonotonic (full_window ++ cycles 12))
    ∷ answered (answers RateMonotonic (three_messages ++ cycles 2))
    ∷ answered (answers RateMonotonic crowded_out)
    ∷ answered (answers EarliestDeadline one_too_many)
    ∷ repeats (round 5040 32 (two_rows 144 35))
    ∷ repeats (round 5080 32 (two_rows 127 40))
    ∷ answered (answers RateMonotonic (two_adds 127 40))
    ∷ trigger (trigger_bytes (word_of (map three_rows (range_with_len 0 32))))
    ∷ frame (frame_answer 2500 0)
    ∷ frame (frame_answer 2500 1)
    ∷ frame (frame_answer 2500 8)
    ∷ frame (frame_answer 47 0)
    ∷ frame (frame_answer 46 0)
    ∷ []

abbrev pub told : List Entry
told =
    answered (
    made ∷ made ∷ made ∷ made ∷ declined (numbered 7 (3 ∷ 6 ∷ [])) ∷ made ∷ made
    ∷ map schedule (1 ∷ 2 ∷ 4 ∷ 1 ∷ 8 ∷ 2 ∷ 4 ∷ 1 ∷ 2 ∷ 1 ∷ 4 ∷ 8 ∷ []))
    ∷ answered (made ∷ made ∷ made ∷ made ∷ schedule 1 ∷ schedule 6 ∷ [])
    ∷ answered (made ∷ made ∷ declined (numbered 7 (1 ∷ 4 ∷ [])) ∷ [])
    ∷ answered (map (λ r. made) (range_with_len 0 17) ++ declined (numbered 8 []) ∷ [])
    ∷ repeats (Some 5040)
    ∷ repeats (Some 5080)
    ∷ answered (made ∷ declined (numbered 6 []) ∷ [])
    ∷ trigger (0x01 ∷ 0x02 ∷ 0x00 ∷ 0x80 ∷ [])
    ∷ frame (Ok 5)
    ∷ frame (Ok 6)
    ∷ frame (Ok 12)
    ∷ frame (Ok 255)
    ∷ frame (Err (numbered 12 []))
    ∷ []

-- all of them at once
abbrev pub Worked : Type 0
Worked = asked ≡ told
