use Rattle.std.proofs.Common.{◌+◌, List, Option, None, sym, ◌∙◌, subst, arith}
use Rattle.std.proofs.lemmas.List.{set-get_or}
use Rattle.engine.specs.declared.row.Row.{Row}
use Rattle.engine.specs.Rows.{released}
use Rattle.engine.proofs.Passes.{ChangedBelow, changed_none, changed_empty, changed_used, changed_all}
use Rattle.engine.proofs.row_by_row.cycle.release.Goals as goal
use Rattle.engine.proofs.row_by_row.cycle.release.Goals.{in-Some, in_default}

pub loop-slot-init : goal.loop-slot-init
loop-slot-init c = changed_none _ _

pub loop-slot-preserved : goal.loop-slot-preserved
loop-slot-preserved c =
    let Done : List (Option Row) → Type 0 = ChangedBelow (c.loop-slot.slot-index + 1) (λ r. released) c.args.rows.now in
    elim c.match-slot.branch [
      | in-Some w ↦ subst Done (sym w.rows-is) (changed_used _ _ c.loop-slot.rows _ c.loop-slot.invariant w.in-Some.row _ (omega arith) w.in-Some.is w.release.ensures)
      | in_default w ↦ subst Done (sym (w.rows-is ∙ set-get_or c.loop-slot.rows c.loop-slot.slot-index None)) (changed_empty _ _ c.loop-slot.rows _ c.loop-slot.invariant w.in_default.is)
    ]

pub returns : goal.returns
returns c = changed_all (λ r. released) c.args.rows.now c.loop-slot.rows c.loop-slot.slot-index (omega arith) c.loop-slot.invariant
