use Rattle.std.proofs.Common.{◌∙◌, arith}
use Rattle.engine.proofs.WaitingRows.{all_within, settled_by_members, settled_by_words}
use Rattle.engine.proofs.round.has_settled.Goals as goal

pub returns : goal.returns
returns c =
    let start = c.args.start.word in
    let end = c.args.end.word in
    let value = all_within 32 start end (omega arith) (omega arith) in
    record {
      value = value;
      members = λ a b is_a is_b. value ∙ settled_by_members 32 start end a b is_a is_b;
      tables = λ a b is_a is_b. value ∙ settled_by_words 32 start end a b is_a is_b;
    }
