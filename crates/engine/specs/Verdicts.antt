-- What the answer of a rehearsal says of the table. Assumes nothing.
use Rattle.std.specs.Prelude.{◌≡◌, ℕ, Some, Option}
use Rattle.engine.specs.declared.verdict.Verdict.{Verdict}
use Rattle.engine.specs.declared.verdict.Verdict.TheVariants.{Settled, Late}
use Rattle.engine.specs.Cycle.{Slots, Rules}
use Rattle.engine.specs.Comparison.{Sound, Calm, FirstLate}
use Rattle.engine.specs.Rehearsal.{rehearsed}

pub record Foretells (rules : Rules) (t : Slots) (answer : Option Verdict) : Type 0 where
  -- the answer of the definition, where a round has at most 5,040 cycles
  pub value : answer ≡ rehearsed rules 5040 t
  -- a table that settles is late in no coming cycle
  pub calm : Sound t → answer ≡ Some Settled → Calm rules t
  -- a late verdict names the first cycle that has a late row, and the lowest row that is late in it
  pub late : (row cycle : ℕ) → answer ≡ Some (Late row cycle) → FirstLate rules t row cycle
