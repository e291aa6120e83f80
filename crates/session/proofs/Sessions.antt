-- Lines do what the calls do that they stand for. Assumes nothing.
use Rattle.std.proofs.Common.{◌≡◌, ℕ, zero, suc, Bool, true, false, cond, eqb, List, [], ◌∷◌, ◌++◌, map, length, replicate, Ok, Err, Result, sym, refl, ap, ◌∙◌}
use Rattle.bus.specs.Refusals.{Told}
use Rattle.orders.specs.Coded.{order_of}
use Rattle.orders.specs.declared.selector.Selector.{Selector}
use Rattle.rules.specs.Calls.{Call, Answer, run, history, step}
use Rattle.rules.specs.Calls.Call.{add, alter, drop, set_window, set_policy, next}
use Rattle.rules.specs.Calls.Answer.{made, declined, schedule}
use Rattle.rules.specs.Calls.Report.{sent}
use Rattle.lines.specs.declared.form.Form.{Form}
use Rattle.lines.specs.declared.form.Form.TheVariants.{Window, Policy, Drop, Next, Which, Frame, Add, Alter}
use Rattle.bus.specs.Frames.{frame_answer}
use Rattle.session.specs.Replies.{Said, Standing, answers, leaves, by_answer, by_units, taken, form_said, form_after, read_said, read_after}
use Rattle.session.specs.Sessions.{cycles_leave, cycles_print, reply_prints, reply_leaves, line_prints, line_leaves, lines_leave, form_calls, read_calls, line_calls, calls_of, answered_calls}

abbrev after_all : Standing → List (Call Selector) → Standing
after_all = run order_of 32 5040

abbrev all_printed : ℕ → Standing → List (Call Selector) → List Said
all_printed number s calls = map (λ x. by_answer number x.1) (answered_calls s calls)

run_append : (s : Standing) (xs ys : List (Call Selector)) → after_all s (xs ++ ys) ≡ after_all (after_all s xs) ys
unfolding run
run_append s [] ys = refl
run_append s (x ∷ xs) ys = run_append (leaves s x) xs ys

-- the answer to a single call is printed as it is, and leaves what the call leaves
answer_prints : (number : ℕ) (a : Answer) (s : Standing) → reply_prints (by_answer number a) s ≡ by_answer number a ∷ []
answer_prints number made s = refl
answer_prints number (declined t) s = refl
answer_prints number (schedule w) s = refl

answer_leaves : (number : ℕ) (a : Answer) (s : Standing) → reply_leaves (by_answer number a) s ≡ s
answer_leaves number made s = refl
answer_leaves number (declined t) s = refl
answer_leaves number (schedule w) s = refl

units_leave : (number : ℕ) (r : Result ℕ Told) (s : Standing) → reply_leaves (by_units number r) s ≡ s
units_leave number (Ok n) s = refl
units_leave number (Err t) s = refl

cycles_run : (n : ℕ) (s : Standing) → cycles_leave n s ≡ after_all s (replicate n (next sent))
unfolding run
cycles_run zero s = refl
cycles_run (suc n) s = cycles_run n (leaves s (next sent))

one_call_leaves : (number : ℕ) (s : Standing) (call : Call Selector) → reply_leaves (by_answer number (answers s call)) (leaves s call) ≡ after_all s (call ∷ [])
unfolding run
one_call_leaves number s call = answer_leaves number (answers s call) (leaves s call)

form_leaves : (number : ℕ) (s : Standing) (form : Form) → reply_leaves (form_said s number form) (form_after s form) ≡ after_all s (form_calls form)
unfolding run
form_leaves number s (Window n) = one_call_leaves number s (set_window n)
form_leaves number s (Policy p) = one_call_leaves number s (set_policy p)
form_leaves number s (Drop r) = one_call_leaves number s (drop r)
form_leaves number s (Next n) = cycles_run n s
form_leaves number s Which = refl
form_leaves number s (Frame cycle bytes) = units_leave number (frame_answer cycle bytes) s
form_leaves number s (Add r f) = one_call_leaves number s (add r f)
form_leaves number s (Alter r f) = one_call_leaves number s (alter r f)

read_leaves : (number : ℕ) (s : Standing) (read : Result Form Told) → reply_leaves (read_said s number read) (read_after s read) ≡ after_all s (read_calls read)
unfolding run
read_leaves number s (Ok form) = form_leaves number s form
read_leaves number s (Err t) = refl

-- an empty line says and does nothing
one_line_leaves : (number : ℕ) (s : Standing) (empty : Bool) (read : Result Form Told)
    → reply_leaves (cond empty Said.silent (read_said s number read)) (cond empty s (read_after s read)) ≡ after_all s (cond empty [] (read_calls read))
unfolding run
one_line_leaves number s true read = refl
one_line_leaves number s false read = read_leaves number s read

pub lines_run : (s : Standing) (number : ℕ) (lines : List (List ℕ)) → lines_leave s number lines ≡ after_all s (calls_of lines)
unfolding run
lines_run s number [] = refl
lines_run s number (line ∷ lines) =
    lines_run (line_leaves s number line) (suc number) lines
    ∙ ap (λ (t : Standing). after_all t (calls_of lines)) (one_line_leaves number s (eqb (length line) 0) (taken line))
    ∙ sym (run_append s (line_calls line) (calls_of lines))

-- a cycle is answered by its schedule, whatever the line
cycles_printed : (number n : ℕ) (s : Standing) → cycles_print n s ≡ all_printed number s (replicate n (next sent))
unfolding history step
cycles_printed number zero s = refl
cycles_printed number (suc n) s = ap (λ (rest : List Said). by_answer number (answers s (next sent)) ∷ rest) (cycles_printed number n (leaves s (next sent)))

one_call_prints : (number : ℕ) (s : Standing) (call : Call Selector) → reply_prints (by_answer number (answers s call)) (leaves s call) ≡ all_printed number s (call ∷ [])
unfolding history
one_call_prints number s call = answer_prints number (answers s call) (leaves s call)

form_prints : (number : ℕ) (s : Standing) (form : Form) → (form_calls form ≡ [] → ⊥)
    → reply_prints (form_said s number form) (form_after s form) ≡ all_printed number s (form_calls form)
form_prints number s (Window n) some = one_call_prints number s (set_window n)
form_prints number s (Policy p) some = one_call_prints number s (set_policy p)
form_prints number s (Drop r) some = one_call_prints number s (drop r)
form_prints number s (Next n) some = cycles_printed number n s
form_prints number s Which some = absurd (some refl)
form_prints number s (Frame cycle bytes) some = absurd (some refl)
form_prints number s (Add r f) some = one_call_prints number s (add r f)
form_prints number s (Alter r f) some = one_call_prints number s (alter r f)

read_prints : (number : ℕ) (s : Standing) (read : Result Form Told) → (read_calls read ≡ [] → ⊥)
    → reply_prints (read_said s number read) (read_after s read) ≡ all_printed number s (read_calls read)
read_prints number s (Ok form) some = form_prints number s form some
read_prints number s (Err t) some = absurd (some refl)

one_line_prints : (number : ℕ) (s : Standing) (empty : Bool) (read : Result Form Told) → (cond empty [] (read_calls read) ≡ [] → ⊥)
    → reply_prints (cond empty Said.silent (read_said s number read)) (cond empty s (read_after s read)) ≡ all_printed number s (cond empty [] (read_calls read))
one_line_prints number s true read some = absurd (some refl)
one_line_prints number s false read some = read_prints number s read some

pub line_printed : (s : Standing) (number : ℕ) (line : List ℕ) → (line_calls line ≡ [] → ⊥) → line_prints s number line ≡ all_printed number s (line_calls line)
line_printed s number line some = one_line_prints number s (eqb (length line) 0) (taken line) some
