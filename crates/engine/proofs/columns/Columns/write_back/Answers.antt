use Rattle.std.proofs.Common.{ℕ, ◌+◌, List, get_or, Option, None, refl, sym, subst, ◌∙◌, arith}
use Rattle.std.proofs.lemmas.List.{set-get_or}
use Rattle.engine.specs.declared.row.Row.{Row}
use Rattle.engine.proofs.Passes.{ChangedBelow, changed_none, changed_empty, changed_used, changed_all}
use Rattle.engine.proofs.columns.Columns.write_back.Goals as goal
use Rattle.engine.proofs.columns.Columns.write_back.Goals.{in-Some, in_default}

abbrev counters : (waits lefts : List ℕ) → ℕ → Row → Row
counters waits lefts r row = record { figures = row.figures; wait = get_or waits r 0; left = get_or lefts r 0 }

pub loop-r-init : goal.loop-r-init
loop-r-init c = changed_none _ _

pub loop-r-preserved : goal.loop-r-preserved
loop-r-preserved c =
    let by = counters c.args.self.now.waits c.args.self.now.lefts in
    let Done : List (Option Row) → Type 0 = ChangedBelow (c.loop-r.r + 1) by c.args.rows.now in
    elim c.match-slot.branch [
      | in-Some w ↦ subst Done (sym w.rows-is) (changed_used by _ c.loop-r.rows _ c.loop-r.invariant w.in-Some.row _ (omega arith) w.in-Some.is refl)
      | in_default w ↦ subst Done (sym (w.rows-is ∙ set-get_or c.loop-r.rows c.loop-r.r None)) (changed_empty by _ c.loop-r.rows _ c.loop-r.invariant w.in_default.is)
    ]

pub returns : goal.returns
returns c = changed_all (counters c.args.self.now.waits c.args.self.now.lefts) c.args.rows.now c.loop-r.rows c.loop-r.r (omega arith) c.loop-r.invariant
