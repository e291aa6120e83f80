use Rattle.std.proofs.Common.{◌≡◌, Some}
use Rattle.engine.specs.Rehearsal.{round}
use Rattle.engine.specs.Held.{slots}
use Rattle.engine.proofs.round.round_of.Given as goal

abbrev pub invariant-loop-slot : goal.invariant-loop-slot
invariant-loop-slot l = round 5040 l.slot-index (slots l.rows) ≡ Some l.cycles
