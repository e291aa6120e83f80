-- What a line is answered, and what it leaves. Assumes nothing.
use Rattle.std.specs.Prelude.{ℕ, cond, List, length, Ok, Err, Result, ◌==◌, nat_lt}
use Rattle.bus.specs.Frames.{frame_answer}
use Rattle.bus.specs.Refusals.{Told, told}
use Rattle.orders.specs.Coded.{code_of, order_of}
use Rattle.orders.specs.declared.selector.Selector.{Selector}
use Rattle.rules.specs.Calls.{Call, Answer as Answered, State, answer, after}
use Rattle.rules.specs.Calls.Call.{add, alter, drop, set_window, set_policy}
use Rattle.rules.specs.Calls.Answer.{made, declined, schedule}
use Rattle.lines.specs.declared.form.Form.{Form}
use Rattle.lines.specs.declared.form.Form.TheVariants.{Window, Policy, Drop, Next, Which, Frame, Add, Alter}
use Rattle.lines.specs.Reading.{reading, bad_sign}
use Rattle.session.specs.declared.answer.Answer.{Answer}
use Rattle.session.specs.declared.answer.Answer.TheVariants.{Made, Units, Label, Send, Refused}
use Rattle.bus.specs.declared.refusal.Refusal.{Refusal}
use Rattle.ftt.specs.Held.{stands}
use Rattle.session.specs.declared.session.Session.{Session}
use Rattle.session.specs.declared.reply.Reply.{Reply}
use Rattle.session.specs.declared.reply.Reply.TheVariants.{Nothing, Line, Cycles}

-- a reply, with its refusal as it is told and the number of the line that it came from
pub data Said : Type 0 where
  silent : Said
  done : Said
  units : ℕ → Said
  label : ℕ → Said
  sends : (word : ℕ) → Said
  runs : (cycles : ℕ) → Said
  refused : (line : ℕ) → Told → Said

abbrev pub said_answer : Answer → Said
said_answer Made = done
said_answer (Units n) = units n
said_answer (Label n) = label n
said_answer (Send rows) = sends rows.word
said_answer (Refused f) = refused f.line (told f.refusal)

abbrev pub said : Reply → Said
said Nothing = silent
said (Line a) = said_answer a
said (Cycles n) = runs n

-- a reply, or a refusal of the line with this number
abbrev pub told_reply : ℕ → Result Reply Refusal → Said
told_reply line (Ok r) = said r
told_reply line (Err e) = refused line (told e)

-- a master over the selector, with its idle watch
abbrev pub Standing : Type 0
Standing = State Selector

abbrev pub standing_of : Session → Standing
standing_of s = stands s.master s.watch

abbrev pub answers : Standing → Call Selector → Answered
answers = answer order_of 32 5040

abbrev pub leaves : Standing → Call Selector → Standing
leaves = after order_of 32 5040

abbrev pub by_answer : ℕ → Answered → Said
by_answer line made = done
by_answer line (declined t) = refused line t
by_answer line (schedule w) = sends w

abbrev pub by_units : ℕ → Result ℕ Told → Said
by_units line (Ok n) = units n
by_units line (Err t) = refused line t

-- what each form is answered
abbrev pub form_said : Standing → ℕ → Form → Said
form_said s line (Window n) = by_answer line (answers s (set_window n))
form_said s line (Policy p) = by_answer line (answers s (set_policy p))
form_said s line (Drop r) = by_answer line (answers s (drop r))
form_said s line (Next n) = runs n
form_said s line Which = label (code_of s.policy)
form_said s line (Frame cycle bytes) = by_units line (frame_answer cycle bytes)
form_said s line (Add r f) = by_answer line (answers s (add r f))
form_said s line (Alter r f) = by_answer line (answers s (alter r f))

-- and what it leaves
abbrev pub form_after : Standing → Form → Standing
form_after s (Window n) = leaves s (set_window n)
form_after s (Policy p) = leaves s (set_policy p)
form_after s (Drop r) = leaves s (drop r)
form_after s (Next n) = s
form_after s Which = s
form_after s (Frame cycle bytes) = s
form_after s (Add r f) = leaves s (add r f)
form_after s (Alter r f) = leaves s (alter r f)

-- a line over 120 bytes is at fault at place 120, before any other test
abbrev pub taken : List ℕ → Result Form Told
taken line = cond (nat_lt 120 (length line)) (Err (bad_sign 120)) (reading line)

abbrev pub read_said : Standing → ℕ → Result Form Told → Said
read_said s line (Ok form) = form_said s line form
read_said s line (Err t) = refused line t

abbrev pub read_after : Standing → Result Form Told → Standing
read_after s (Ok form) = form_after s form
read_after s (Err t) = s

-- an empty line gets no answer, and a faulty one changes nothing
abbrev pub line_said : Standing → (number : ℕ) → List ℕ → Said
line_said s number line = cond (length line == 0) silent (read_said s number (taken line))

abbrev pub line_after : Standing → List ℕ → Standing
line_after s line = cond (length line == 0) s (read_after s (taken line))
