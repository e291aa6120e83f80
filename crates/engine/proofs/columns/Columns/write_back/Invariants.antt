use Rattle.std.proofs.Common.{get_or}
use Rattle.engine.proofs.Passes.{ChangedBelow}
use Rattle.engine.proofs.columns.Columns.write_back.Given as goal

abbrev pub invariant-loop-r : goal.invariant-loop-r
invariant-loop-r l = ChangedBelow l.r (λ r row. record { figures = row.figures; wait = get_or l.self.waits r 0; left = get_or l.self.lefts r 0 }) l.initial.rows l.rows
