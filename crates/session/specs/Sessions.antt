-- Whole sessions: what their lines print and leave, and that every one of them keeps the master's promise. Assumes nothing.
use Rattle.std.specs.Prelude.{◌≡◌, ℕ, zero, suc, cond, List, [], ◌∷◌, ◌++◌, map, length, replicate, Ok, Err, Result, ◌==◌, ◌≢◌}
use Rattle.bus.specs.Refusals.{Told}
use Rattle.orders.specs.Coded.{order_of}
use Rattle.orders.specs.declared.selector.Selector.{Selector}
use Rattle.orders.specs.declared.selector.Selector.TheVariants.{RateMonotonic}
use Rattle.rules.specs.Calls.{Call, Answer, run, history}
use Rattle.rules.specs.Calls.Call.{add, alter, drop, set_window, set_policy, next}
use Rattle.rules.specs.Calls.Report.{sent}
use Rattle.rules.specs.Promise.{Kept, ledger_of}
use Rattle.lines.specs.declared.form.Form.{Form}
use Rattle.lines.specs.declared.form.Form.TheVariants.{Window, Policy, Drop, Next, Which, Frame, Add, Alter}
use Rattle.session.specs.Replies.{Said, Standing, answers, leaves, by_answer, taken, line_said, line_after}
use Rattle.session.specs.Replies.Said.{silent, done, units, label, sends, runs, refused}

-- THE PROGRAM: it prints the reply to a line, and for a reply of cycles runs them and prints the trigger of each.

-- what so many cycles leave
abbrev pub cycles_leave : ℕ → Standing → Standing
cycles_leave zero s = s
cycles_leave (suc n) s = cycles_leave n (leaves s (next sent))

-- and what they print
abbrev pub cycles_print : ℕ → Standing → List Said
cycles_print zero s = []
cycles_print (suc n) s = by_answer 0 (answers s (next sent)) ∷ cycles_print n (leaves s (next sent))

-- what is printed for a reply
abbrev pub reply_prints : Said → Standing → List Said
reply_prints silent s = []
reply_prints done s = done ∷ []
reply_prints (units n) s = units n ∷ []
reply_prints (label n) s = label n ∷ []
reply_prints (sends w) s = sends w ∷ []
reply_prints (runs n) s = cycles_print n s
reply_prints (refused line t) s = refused line t ∷ []

-- and what the reply leaves
abbrev pub reply_leaves : Said → Standing → Standing
reply_leaves silent s = s
reply_leaves done s = s
reply_leaves (units n) s = s
reply_leaves (label n) s = s
reply_leaves (sends w) s = s
reply_leaves (runs n) s = cycles_leave n s
reply_leaves (refused line t) s = s

abbrev pub line_prints : Standing → (number : ℕ) → List ℕ → List Said
line_prints s number line = reply_prints (line_said s number line) (line_after s line)

abbrev pub line_leaves : Standing → (number : ℕ) → List ℕ → Standing
line_leaves s number line = reply_leaves (line_said s number line) (line_after s line)

-- the lines of a session, the first of which has this number
abbrev pub lines_leave : Standing → (number : ℕ) → List (List ℕ) → Standing
lines_leave s number [] = s
lines_leave s number (line ∷ lines) = lines_leave (line_leaves s number line) (suc number) lines

-- THE CALLS that lines stand for.

-- a question makes none
abbrev pub form_calls : Form → List (Call Selector)
form_calls (Window n) = set_window n ∷ []
form_calls (Policy p) = set_policy p ∷ []
form_calls (Drop r) = drop r ∷ []
form_calls (Next n) = replicate n (next sent)
form_calls Which = []
form_calls (Frame cycle bytes) = []
form_calls (Add r f) = add r f ∷ []
form_calls (Alter r f) = alter r f ∷ []

-- nor does a line at fault
abbrev pub read_calls : Result Form Told → List (Call Selector)
read_calls (Ok form) = form_calls form
read_calls (Err t) = []

abbrev pub line_calls : List ℕ → List (Call Selector)
line_calls line = cond (length line == 0) [] (read_calls (taken line))

abbrev pub calls_of : List (List ℕ) → List (Call Selector)
calls_of [] = []
calls_of (line ∷ lines) = line_calls line ++ calls_of lines

-- each call with its answer, from a state on
abbrev pub answered_calls : Standing → List (Call Selector) → List (Call Selector × Answer)
answered_calls = history order_of 32 5040

-- THE PROMISE, as a session keeps it
pub record EverySession : Type 0 where
  -- lines leave the master as the calls do that they stand for
  pub leaves : (s : Standing) (number : ℕ) (lines : List (List ℕ)) → lines_leave s number lines ≡ run order_of 32 5040 s (calls_of lines)
  -- a line that makes calls prints their answers, in order, and nothing else
  pub prints : (s : Standing) (number : ℕ) (line : List ℕ) → (line_calls line ≢ [])
      → line_prints s number line ≡ map (λ x. by_answer number x.1) (answered_calls s (line_calls line))
  -- so whatever lines come, the ledger of their calls and answers shows what it must
  pub kept : (lines : List (List ℕ)) → Kept (ledger_of order_of 32 5040 RateMonotonic (calls_of lines))
