use Rattle.std.proofs.Common.{rules, arith}
use Rattle.engine.proofs.Filling.{empty_place, used_place, filled_none, filled_empty, filled_used, filled_in_step, filled_stands}
use Rattle.engine.proofs.columns.Columns.of.Goals as goal
use Rattle.engine.proofs.columns.Columns.of.Goals.{in-Some, in_default}

pub loop-r-init : goal.loop-r-init
loop-r-init c = filled_none c.args.rows.now _ 255 0 255 0 (empty_place 255)

pub loop-r-preserved : goal.loop-r-preserved
loop-r-preserved c =
    let rows = c.args.rows.now in
    let r = c.loop-r.r in
    elim c.match-slot.branch [
      | in-Some w ↦
          rw (w.kinds-is, w.periods-is, w.deadlines-is, w.waits-is, w.lefts-is)
          (filled_used r rows c.loop-r.kinds c.loop-r.periods c.loop-r.deadlines c.loop-r.waits c.loop-r.lefts c.loop-r-test.true c.loop-r.invariant _ _ _ _ _
          (used_place _ w.in-Some.row _ _ _ _ _ w.in-Some.is w.instance.ensures (search rules) (search rules) (search rules) (search rules)))
      | in_default w ↦
          rw (w.kinds-is, w.periods-is, w.deadlines-is, w.waits-is, w.lefts-is)
          (filled_empty r rows c.loop-r.kinds c.loop-r.periods c.loop-r.deadlines c.loop-r.waits c.loop-r.lefts c.loop-r-test.true c.loop-r.invariant w.in_default.is)
    ]

pub invariant_of-result : goal.invariant_of-result
invariant_of-result c =
    record { in_step = filled_in_step c.loop-r.r c.args.rows.now c.loop-r.kinds c.loop-r.periods c.loop-r.deadlines c.loop-r.waits c.loop-r.lefts (omega (arith, c.loop-r-test.false)) c.loop-r.invariant }

pub returns : goal.returns
returns c =
    filled_stands c.loop-r.r c.args.rows.now c.loop-r.kinds c.loop-r.periods c.loop-r.deadlines c.loop-r.waits c.loop-r.lefts (omega (arith, c.loop-r-test.false)) c.loop-r.invariant c.told-rows
