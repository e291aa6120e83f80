use Rattle.std.proofs.Common.{rules, ◌-◌, get_or}
use Rattle.engine.proofs.Made.{made_at}
use Rattle.engine.proofs.columns.counting.nearer.Goals as goal

pub returns : goal.returns
returns c = λ k h. made_at _ (λ r. get_or c.args.cycles.now r 0 - 1) _ _ (λ i r q call. search rules) 32 c.from_fn.ensures.items k 0 h
