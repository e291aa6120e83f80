use Rattle.std.proofs.Common.{◌≡◌, ◌+◌, ◌-◌}
use Rattle.engine.specs.declared.verdict.Verdict.{Verdict}
use Rattle.engine.specs.Cycle.{Slots}
use Rattle.engine.specs.Held.{rules_by}
use Rattle.engine.specs.Rehearsal.{stretch}
use Rattle.engine.proofs.rehearsal.run_stretch.Given as goal

abbrev pub invariant-loop-done : goal.invariant-loop-done
invariant-loop-done g l =
    let rules = rules_by g.P.Policy.goes l.rules in
    (t : Slots) → g.T.Running.shows l.initial.table t
    → (u : Slots) × g.T.Running.shows l.table u
    × ((next : Slots → Verdict) → stretch rules l.cycles l.coming next t ≡ stretch rules (l.cycles - l.done) (l.coming + l.done) next u)
