use Rattle.std.proofs.Common.{rules, cond, eqb, get_or}
use Rattle.engine.proofs.Made.{made_at}
use Rattle.engine.proofs.columns.counting.when_due.Goals as goal

pub returns : goal.returns
returns c =
    λ k h.
    made_at _ (λ r. cond (eqb (get_or c.args.waits.now r 0) 0) (get_or c.args.due.now r 0) (get_or c.args.others.now r 0)) _ _ (λ i r q call. search rules) 32 c.from_fn.ensures.items k 0 h
