use Rattle.std.proofs.Common.{sym, ◌∙◌, arith}
use Rattle.std.proofs.lemmas.Bool.{le-ltb}
use Rattle.bus.proofs.Words.{no_member_past}
use Rattle.bus.proofs.rows.RowSet.contains.Goals as goal

pub returns-else-row-lt32 : goal.returns-else-row-lt32
returns-else-row-lt32 c = le-ltb _ _ (omega arith) ∙ sym (no_member_past c.args.self.word 32 c.args.row (omega arith) (omega arith))
