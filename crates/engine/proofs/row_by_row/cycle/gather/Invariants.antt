use Rattle.std.proofs.Common.{◌≡◌}
use Rattle.engine.specs.Cycle.{waiters}
use Rattle.engine.specs.Held.{slots}
use Rattle.engine.proofs.Loads.{Gathered}
use Rattle.engine.proofs.row_by_row.cycle.gather.Given as goal

abbrev pub invariant-loop-r : goal.invariant-loop-r
invariant-loop-r g l = (l.waiting.items ≡ waiters l.r (slots l.rows)) × Gathered (g.P.Policy.goes l.policy) l.waiting.items l.demands.items
