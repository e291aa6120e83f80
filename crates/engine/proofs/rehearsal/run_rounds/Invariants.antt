use Rattle.std.proofs.Common.{◌≡◌, ◌+◌, ◌-◌, ◌*◌, ◌≤◌}
use Rattle.engine.specs.Cycle.{Slots}
use Rattle.engine.specs.Held.{rules_by}
use Rattle.engine.specs.Rehearsal.{rounds}
use Rattle.engine.proofs.rehearsal.run_rounds.Given as goal

abbrev pub invariant-loop-done : goal.invariant-loop-done
invariant-loop-done g l =
    let rules = rules_by g.P.Policy.goes l.rules in
    (l.coming ≤ l.first + 65536 * l._done)
    × ((t : Slots) → g.T.Running.shows l.initial.table t
    → (u : Slots) × g.T.Running.shows l.table u × (rounds rules l.round 4 l.first t ≡ rounds rules l.round (4 - l._done) l.coming u))
