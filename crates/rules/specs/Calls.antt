-- The master's rules: what each call answers and what it changes. Assumes nothing.
use Rattle.std.specs.Prelude.{ℕ, ◌+◌, min, Bool, true, false, cond, not, ◌||◌, ltb, List, [], ◌∷◌, Some, None, Ok, Err, Option, Result, ◌==◌, nat_le, nat_lt}
use Rattle.std.specs.Option.{option_map}
use Rattle.bus.specs.Refusals.{Told, numbered}
use Rattle.orders.specs.Laws.{Order}
use Rattle.engine.specs.declared.row.Figures.{Figures}
use Rattle.engine.specs.declared.row.Row.{Row}
use Rattle.engine.specs.declared.verdict.Verdict.{Verdict}
use Rattle.engine.specs.declared.verdict.Verdict.TheVariants.{Settled, Late, Unsettled}
use Rattle.engine.specs.Cycle.{Slots, Rules, first_of, lowest, used_and, cycle, word}
use Rattle.engine.specs.Rehearsal.{round, verdict}

-- what became of a trigger
pub data Report : Type 0 where
  sent : Report
  lost : Report

pub data Call (P : Type 0) : Type 0 where
  add : (row : ℕ) → Figures → Call P
  alter : (row : ℕ) → Figures → Call P
  drop : (row : ℕ) → Call P
  set_window : ℕ → Call P
  set_policy : P → Call P
  -- the next elementary cycle, and then the report on its trigger
  next : Report → Call P

pub data Answer : Type 0 where
  made : Answer
  declined : Told → Answer
  -- the cycle's schedule, as a word
  schedule : ℕ → Answer

pub record State (P : Type 0) : Type 0 where
  pub slots : Slots
  pub window : ℕ
  pub policy : P
  -- triggers lost in a row, as the watch counts them
  pub lost : ℕ

-- a master that was just made: no row is in use
abbrev pub fresh : {P : Type 0} → P → State P
fresh p = record { slots = λ r. None; window = 255; policy = p; lost = 0 }

-- a slot that holds a message
abbrev pub is_used : Option Row → Bool
is_used a = used_and (λ row. true) a

-- a new message waits for its phase, and no instance of it waits
abbrev pub new_row : Figures → Row
new_row f = record { figures = f; wait = f.phase; left = 0 }

-- the table with one row changed
abbrev pub put : ℕ → Option Row → Slots → Slots
put r a t k = cond (k == r) a (t k)

-- CHECKS. Each is a refusal or none; of several the first refusal counts.

abbrev pub refused_if : Bool → Told → Option Told
refused_if fails told = cond fails (Some told) None

abbrev pub first_refusal : List (Option Told) → Option Told
first_refusal [] = None
first_refusal (c ∷ cs) = first_of c (first_refusal cs)

-- the row is one of the table's
abbrev pub row_exists : (rows r : ℕ) → Option Told
row_exists rows r = refused_if (nat_le rows r) (numbered 1 [])

-- for an add: the row has no message yet
abbrev pub row_is_free : Slots → ℕ → Option Told
row_is_free t r = refused_if (is_used (t r)) (numbered 2 [])

-- for an alteration or a drop: the row has a message
abbrev pub row_is_used : Slots → ℕ → Option Told
row_is_used t r = refused_if (not (is_used (t r))) (numbered 3 [])

-- the first figure that is out of range, by its number
abbrev pub in_range : Figures → Option Told
in_range f =
    first_refusal (
    refused_if (f.duration == 0) (numbered 4 (1 ∷ []))
    ∷ refused_if (f.period == 0) (numbered 4 (2 ∷ []))
    ∷ refused_if (f.deadline == 0 || nat_lt f.period f.deadline) (numbered 4 (3 ∷ []))
    ∷ [])

-- a window has at least one unit
abbrev pub width_in_range : ℕ → Option Told
width_in_range w = refused_if (w == 0) (numbered 4 (4 ∷ []))

-- the message of row r fits the window
abbrev pub within_window : (window r : ℕ) → Figures → Option Told
within_window w r f = refused_if (nat_lt w f.duration) (numbered 5 (r ∷ []))

-- the lowest row whose duration is above a window
abbrev pub all_within_window : (rows window : ℕ) → Slots → Option Told
all_within_window rows w t = option_map (λ r. numbered 5 (r ∷ [])) (lowest rows (λ r. used_and (λ row. ltb w row.figures.duration) (t r)))

-- CALLS. A call comes to the state that it makes, or to a refusal.

abbrev pub Outcome : Type 0 → Type 0
Outcome P = Result (State P) Told

-- a call's answer, and the state after it
pub record Step (P : Type 0) : Type 0 where
  pub answer : Answer
  pub state : State P

-- a declined call changes nothing
abbrev pub settle : {P : Type 0} → State P → Outcome P → Step P
settle s (Ok made_state) = record { answer = made; state = made_state }
settle s (Err told) = record { answer = declined told; state = s }

-- the watch counts up to 255, and begins again once a trigger is sent
abbrev pub counted : Report → ℕ → ℕ
counted sent n = 0
counted lost n = min 255 (n + 1)

-- by the order of each policy, the number of rows, and the longest round that is rehearsed
module _ {P : Type 0} (goes : P → Order) (rows limit : ℕ) where
  -- the rules that a state's cycles go by
  abbrev pub rules_of : State P → Rules
  rules_of s = record { goes = goes s.policy; window = s.window; rows = rows }

  -- what a verdict makes of a changed state
  abbrev pub judged : State P → Verdict → Outcome P
  judged s Settled = Ok s
  judged s (Late row cycle) = Err (numbered 7 (row ∷ cycle ∷ []))
  judged s Unsettled = Err (numbered 8 [])

  -- a changed state is taken if its rehearsal, from the counters that it has, settles
  unfoldable pub rehearsed : State P → Outcome P
  rehearsed s = elim (round limit rows s.slots) [ None ↦ Err (numbered 6 []) | Some m ↦ judged s (verdict (rules_of s) m s.slots) ]

  abbrev pub with_slots : State P → Slots → State P
  with_slots s t = record { slots = t; window = s.window; policy = s.policy; lost = s.lost }

  abbrev pub with_window : State P → ℕ → State P
  with_window s w = record { slots = s.slots; window = w; policy = s.policy; lost = s.lost }

  abbrev pub with_policy : State P → P → State P
  with_policy s p = record { slots = s.slots; window = s.window; policy = p; lost = s.lost }

  -- the checks of a call, in their order; a window at least as wide as the present one is not held against the rows, and a cycle is never declined
  unfoldable pub checks : State P → Call P → Option Told
  checks s (add r f) = first_refusal (row_exists rows r ∷ row_is_free s.slots r ∷ in_range f ∷ within_window s.window r f ∷ [])
  checks s (alter r f) = first_refusal (row_exists rows r ∷ row_is_used s.slots r ∷ in_range f ∷ within_window s.window r f ∷ [])
  checks s (drop r) = first_refusal (row_exists rows r ∷ row_is_used s.slots r ∷ [])
  checks s (set_window w) = first_refusal (width_in_range w ∷ cond (nat_le s.window w) None (all_within_window rows w s.slots) ∷ [])
  checks s (set_policy p) = None
  checks s (next report) = None

  -- one cycle, and the report on its trigger
  abbrev pub cycled : State P → Report → State P
  cycled s report =
      record { slots = cycle (rules_of s) s.slots; window = s.window; policy = s.policy; lost = counted report s.lost }

  -- what a call comes to once its checks are passed: a dropped row and a wider window need no rehearsal;
  -- an altered row begins anew, and an instance of it that waited is withdrawn
  unfoldable pub outcome : State P → Call P → Outcome P
  outcome s (add r f) = rehearsed (with_slots s (put r (Some (new_row f)) s.slots))
  outcome s (alter r f) = rehearsed (with_slots s (put r (Some (new_row f)) s.slots))
  outcome s (drop r) = Ok (with_slots s (put r None s.slots))
  outcome s (set_window w) = elim (nat_le s.window w) [ true ↦ Ok (with_window s w) | false ↦ rehearsed (with_window s w) ]
  outcome s (set_policy p) = rehearsed (with_policy s p)
  outcome s (next report) = Ok (cycled s report)

  -- a change is made if no check refuses it, and then if it comes to a state
  abbrev pub changed : State P → Call P → Step P
  changed s call = settle s (elim (checks s call) [ Some told ↦ Err told | None ↦ outcome s call ])

  -- every call: a change answers whether it was made, a cycle its schedule
  unfoldable pub step : State P → Call P → Step P
  step s (add r f) = changed s (add r f)
  step s (alter r f) = changed s (alter r f)
  step s (drop r) = changed s (drop r)
  step s (set_window w) = changed s (set_window w)
  step s (set_policy p) = changed s (set_policy p)
  step s (next report) = record { answer = schedule (word (rules_of s) s.slots); state = cycled s report }

  abbrev pub answer : State P → Call P → Answer
  answer s call = (step s call).answer

  abbrev pub after : State P → Call P → State P
  after s call = (step s call).state

  -- the state after a list of calls
  unfoldable pub run : State P → List (Call P) → State P
  run s [] = s
  run s (call ∷ calls) = run (after s call) calls

  -- every call of a list with its answer, in order
  unfoldable pub history : State P → List (Call P) → List (Call P × Answer)
  history s [] = []
  history s (call ∷ calls) = (call, answer s call) ∷ history (after s call) calls
