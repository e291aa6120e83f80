use Rattle.engine.specs.Rows.{released}
use Rattle.engine.proofs.Passes.{ChangedBelow}
use Rattle.engine.proofs.row_by_row.cycle.release.Given as goal

abbrev pub invariant-loop-slot : goal.invariant-loop-slot
invariant-loop-slot l = ChangedBelow l.slot-index (λ r. released) l.initial.rows l.rows
