use Rattle.std.proofs.Common.{sym, subst, rules}
use Rattle.std.specs.Str.{IsUtf8}
use Rattle.std.proofs.lemmas.Str.{IsUtf8-from_ascii}
use Rattle.session.proofs.answer.AnswerDisplay.fmt.Goals as goal

pub unwrap-requires : goal.unwrap-requires
unwrap-requires g c =
    let utf8 = subst IsUtf8 (sym c.bytes.ensures.value) (IsUtf8-from_ascii _ c.text-text.ensures.ascii) in
    search rules
