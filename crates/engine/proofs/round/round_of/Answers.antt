use Rattle.std.proofs.Common.{◌≡◌, ◌+◌, ◌-◌, sym, ap, ◌∙◌, add-one, arith}
use Rattle.engine.specs.Rehearsal.{round}
use Rattle.engine.specs.Held.{slots}
use Rattle.engine.proofs.Multiples.{round_begins, round_more, round_lost}
use Rattle.engine.proofs.round.round_of.Goals as goal
use Rattle.engine.proofs.round.round_of.Goals.{After-common_multiple}

pub loop-slot-init : goal.loop-slot-init
loop-slot-init c = round_begins 5040 (slots c.args.rows.now) (omega arith)

-- with row r, the round is what the code computes
next : (c : After-common_multiple) → round 5040 (c.loop-slot.slot-index + 1) (slots c.args.rows.now) ≡ c.common_multiple.result
next c =
    let t = slots c.args.rows.now in
    ap (λ n. round 5040 n t) (add-one c.loop-slot.slot-index)
    ∙ round_more 5040 c.loop-slot.slot-index t c.loop-slot.cycles c.period_of.result c.loop-slot.invariant c.period_of.ensures
    ∙ sym c.common_multiple.ensures

pub returns-in_err-cycles : goal.returns-in_err-cycles
returns-in_err-cycles c =
    let t = slots c.args.rows.now in
    let r = c.loop-slot.slot-index in
    let whole : 32 ≡ r + 1 + (31 - r) = omega arith in
    c.from_residual.ensures
    ∙ sym (round_lost 5040 (r + 1) (31 - r) t (next (goal.at.returns-in_err-cycles c).After-common_multiple ∙ c.in_err-cycles.was))
    ∙ sym (ap (λ n. round 5040 n t) whole)

pub loop-slot-preserved : goal.loop-slot-preserved
loop-slot-preserved c = next (goal.at.loop-slot-preserved c).After-common_multiple ∙ c.in_ok-cycles.was
