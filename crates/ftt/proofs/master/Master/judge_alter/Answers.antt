use Rattle.std.proofs.Common.{[], ◌∷◌, ◌∙◌}
use Rattle.rules.specs.Calls.{in_range, within_window, checks, outcome}
use Rattle.rules.specs.Calls.Call.{alter}
use Rattle.ftt.specs.Held.{standing}
use Rattle.ftt.proofs.Steps.{past}
use Rattle.ftt.proofs.master.Master.judge_alter.Goals as goal

pub returns-clause-judged : goal.returns-clause-judged
unfolding checks outcome
returns-clause-judged g c =
    λ n.
    let passed = rw c.in_ok-slot.ensures.held at c.in_ok-check_used.ensures in
    let f = c.args.figures in
    c.judge_message.ensures n
    ∙ past c.in_ok-slot.ensures.exists passed (in_range f ∷ within_window c.args.self.now.window c.args.row f ∷ []) (outcome g.P.Policy.goes 32 5040 (standing c.args.self.now n) (alter c.args.row f))
