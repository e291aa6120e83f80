use Rattle.std.proofs.Common.{◌+◌, ap, ◌∙◌}
use Rattle.engine.specs.Rehearsal.{rounds}
use Rattle.engine.specs.Held.{rules_by}
use Rattle.engine.proofs.Stretches.{verdict_by_lead, verdict_by_rounds}
use Rattle.engine.proofs.rehearsal.judge.Goals as goal

pub returns-in-Some : goal.returns-in-Some
returns-in-Some g c =
    λ t was lead.
    verdict_by_lead (rules_by g.P.Policy.goes c.args.rules.now) c.args.round _ t _ (c.from-lead.ensures ∙ lead) (c.in-Some.ensures t was).2

pub returns-in-None : goal.returns-in-None
returns-in-None g c =
    λ t was lead.
    let on = c.in-None.ensures t was in
    let rules = rules_by g.P.Policy.goes c.args.rules.now in
    verdict_by_rounds rules c.args.round _ t on.0 _ (c.from-lead.ensures ∙ lead) on.2
    (c.run_rounds.ensures on.0 on.1 ∙ ap (λ m. rounds rules m 4 (1 + c.from-lead.result) on.0) c.from.ensures)
