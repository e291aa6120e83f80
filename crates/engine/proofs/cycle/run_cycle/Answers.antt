use Rattle.std.proofs.Common.{◌∙◌}
use Rattle.engine.specs.Held.{slots, rules_of}
use Rattle.engine.proofs.Standing.{counted_is_cycle}
use Rattle.engine.proofs.WindowSum.{window_kept}
use Rattle.engine.proofs.cycle.run_cycle.Goals as goal

pub returns-clause-after : goal.returns-clause-after
returns-clause-after g c =
    c.write_back.ensures
    ∙ counted_is_cycle (rules_of (g.P.Policy.goes c.args.policy.now) c.args.window) c.args.rows.now c.run-outcome.new.self.kinds _ _ c.told-rows (c.run-outcome.ensures.after (slots c.args.rows.now) c.of-columns.ensures)

pub returns-clause-within : goal.returns-clause-within
returns-clause-within g c = window_kept (rules_of (g.P.Policy.goes c.args.policy.now) c.args.window) (g.met.P.Policy.lawful c.args.policy.now) (slots c.args.rows.now)
