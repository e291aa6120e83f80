use Rattle.engine.proofs.Filling.{Filled}
use Rattle.engine.proofs.columns.Columns.of.Given as goal

abbrev pub invariant-loop-r : goal.invariant-loop-r
invariant-loop-r l = Filled l.r l.rows l.kinds l.periods l.deadlines l.waits l.lefts
