use Rattle.std.proofs.Common.{◌+◌, ◌*◌, arith}
use Rattle.lines.proofs.Sizes.{digit_more, past}
use Rattle.lines.proofs.number.read_number.Goals as goal

pub returns-then-value-from : goal.returns-then-value-from
returns-then-value-from c =
    let bs = c.args.digits.now in
    let i = c.loop-digit.digit-index in
    let e = digit_more bs c.loop-digit.value i (omega arith) in
    let sub = c.saturating_sub.ensures in
    let same = c.from.ensures in
    past c.args.most (c.loop-digit.value * 10 + c.from.result) (i + 1) bs ((cc)) (omega arith)
