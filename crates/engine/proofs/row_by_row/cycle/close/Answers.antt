use Rattle.std.proofs.Common.{◌≡◌, ◌+◌, List, Option, None, refl, sym, subst, ap, ◌∙◌, arith}
use Rattle.std.specs.Option.{option_or}
use Rattle.std.specs.Bool.{then_some}
use Rattle.std.proofs.lemmas.List.{set-get_or}
use Rattle.bus.specs.Rows.{member}
use Rattle.engine.specs.declared.row.Row.{Row}
use Rattle.engine.specs.Rows.{closed, misses}
use Rattle.engine.specs.Cycle.{lowest, used_and}
use Rattle.engine.specs.Held.{slots, late_by}
use Rattle.engine.proofs.Passes.{ChangedBelow, changed_none, unchanged_yet, changed_empty, changed_used, changed_all}
use Rattle.engine.proofs.Schedule.{lowest_none, lowest_stay, lowest_or}
use Rattle.engine.proofs.row_by_row.cycle.close.Goals as goal
use Rattle.engine.proofs.row_by_row.cycle.close.Goals.{in-Some, in_default}

pub loop-r-init : goal.loop-r-init
loop-r-init c = (sym (lowest_none _), changed_none _ _)

pub loop-r-preserved : goal.loop-r-preserved
loop-r-preserved c =
    let r = c.loop-r.r in
    let by = member c.args.schedule.word in
    let late = late_by by (slots c.args.rows.now) in
    let so_far = c.loop-r.invariant.1 in
    let as_was = unchanged_yet _ _ _ r so_far in
    let Done : List (Option Row) → Type 0 = ChangedBelow (r + 1) (λ r. closed (by r)) c.args.rows.now in
    elim c.match-slot.branch [
      | in-Some w ↦
          let row = w.in-Some.row in
          let here : misses w.contains-scheduled.result row ≡ late r = ap (λ b. misses b row) w.contains-scheduled.ensures ∙ ap (used_and (misses (by r))) (sym w.in-Some.is ∙ as_was) in (
            w.late-is ∙ w.or-late.ensures ∙ ap (option_or c.loop-r.late) (w.then_some.ensures ∙ ap (λ b. then_some b r) (w.misses.ensures ∙ here))
                ∙ ap (λ o. option_or o (then_some (late r) r)) c.loop-r.invariant.0 ∙ lowest_or late r (late r) refl,
            subst Done (sym w.rows-is) (changed_used _ _ c.loop-r.rows r so_far row _ (omega arith) w.in-Some.is (w.close.ensures ∙ ap (λ b. closed b row) w.contains-scheduled.ensures)),
          )
      | in_default w ↦ (
        w.late-is ∙ c.loop-r.invariant.0 ∙ sym (lowest_stay late r (ap (used_and (misses (by r))) (sym as_was ∙ w.in_default.is))),
        subst Done (sym (w.rows-is ∙ set-get_or c.loop-r.rows r None)) (changed_empty _ _ c.loop-r.rows r so_far w.in_default.is),
      )
    ]

pub returns : goal.returns
returns c =
    record {
      after = changed_all _ _ c.loop-r.rows c.loop-r.r (omega arith) c.loop-r.invariant.1;
      late = c.loop-r.invariant.0 ∙ ap (λ n. lowest n (late_by (member c.args.schedule.word) (slots c.args.rows.now))) (omega arith);
    }
