use Rattle.std.proofs.Common.{◌≡◌, ◌+◌, ◌*◌, ◌≤◌, take}
use Rattle.engine.specs.Cycle.{load}
use Rattle.engine.specs.Held.{CountedIn}
use Rattle.engine.proofs.row_by_row.cycle.weigh.Given as goal

abbrev pub invariant-loop-k : goal.invariant-loop-k
invariant-loop-k g l =
    (l.own ≡ l.new.duration + load (g.P.Policy.goes l.policy) (take l.k l.waiting) l.new)
    × (l.own ≤ 255 * (l.k + 1))
    × CountedIn (g.P.Policy.goes l.policy) l.waiting l.new l.k l.initial.demands l.demands
