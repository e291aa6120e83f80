use Rattle.engine.specs.Held.{slots}
use Rattle.engine.proofs.Picked.{Picked}
use Rattle.engine.proofs.row_by_row.cycle.schedule.Given as goal

abbrev pub invariant-loop-k : goal.invariant-loop-k
invariant-loop-k g l = Picked l.demand-items l.rules.window (slots l.rows) l.k l.word
