-- Answers of the code as they are told outside. Assumes nothing.
use Rattle.std.specs.Prelude.{◌≡◌, Some, None, Ok, Err, Option, Result}
use Rattle.bus.specs.declared.refusal.Refusal.{Refusal}
use Rattle.bus.specs.Refusals.{Told, told}
use Rattle.orders.specs.Laws.{Order}
use Rattle.rules.specs.Calls as rules
use Rattle.rules.specs.Calls.{Answer, Call, State}
use Rattle.rules.specs.Calls.Answer.{made, declined}

-- the refusal of an answer, if it is one
abbrev pub refusal_of : {T : Type 0} → Result T Refusal → Option Told
refusal_of (Ok x) = None
refusal_of (Err e) = Some (told e)

-- the answer to a change
abbrev pub told_answer : {T : Type 0} → Result T Refusal → Answer
told_answer (Ok x) = made
told_answer (Err e) = declined (told e)

-- a change is answered, and leaves the state, as the rules of a master say: 32 rows, and rounds of up to 5040 cycles
pub record Follows {P : Type 0} (goes : P → Order) (old : State P) (call : Call P) (result : Result (Unit {0}) Refusal) (new : State P) : Type 0 where
  pub answer : told_answer result ≡ rules.answer goes 32 5040 old call
  pub after : new ≡ rules.after goes 32 5040 old call
