use Rattle.std.proofs.Common.{◌≡◌}
use Rattle.bus.specs.Rows.{member}
use Rattle.engine.specs.Rows.{closed}
use Rattle.engine.specs.Cycle.{lowest}
use Rattle.engine.specs.Held.{slots, late_by}
use Rattle.engine.proofs.Passes.{ChangedBelow}
use Rattle.engine.proofs.row_by_row.cycle.close.Given as goal

abbrev pub invariant-loop-r : goal.invariant-loop-r
invariant-loop-r l =
    (l.late ≡ lowest l.r (late_by (member l.schedule.word) (slots l.initial.rows)))
    × ChangedBelow l.r (λ r. closed (member l.schedule.word r)) l.initial.rows l.rows
