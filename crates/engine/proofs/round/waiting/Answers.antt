use Rattle.std.proofs.Common.{◌≡◌, ℕ, ◌<◌, false, get_or, ◌∙◌, arith, rules}
use Rattle.engine.specs.Held.{slots}
use Rattle.engine.specs.Waiting.{waits_at}
use Rattle.engine.proofs.Made.{made_at}
use Rattle.engine.proofs.WaitingRows.{row_of_list, word_of_list, waiting_below}
use Rattle.engine.proofs.round.waiting.Goals as goal

each : (c : goal.After-from_rows) → (k : ℕ) → k < 32 → get_or c.from_fn.result k false ≡ waits_at (slots c.args.rows.now) k
each c k h = made_at _ (waits_at (slots c.args.rows.now)) _ _ (λ i r q call. search rules) 32 c.from_fn.ensures.items k false h

pub returns-clause-value : goal.returns-clause-value
returns-clause-value c = word_of_list c.from_rows.result.word c.from_fn.result _ (omega arith) c.from_rows.ensures.kept (each c) ∙ waiting_below (slots c.args.rows.now) 32

pub returns-clause-each : goal.returns-clause-each
returns-clause-each c = row_of_list c.from_rows.result.word c.from_fn.result _ c.from_rows.ensures.kept (each c)
