use Rattle.std.proofs.Common.{length, ap, ◌∙◌, arith}
use Rattle.std.proofs.lemmas.List.{length-take, take_all, length_push}
use Rattle.session.specs.Printed.{ended}
use Rattle.session.proofs.answer.Answer.line.Goals as goal

pub returns-clause-value : goal.returns-clause-value
returns-clause-value c =
    let text = c.text-line.result in
    c.push.ensures ∙ take_all 128 (ended text) (omega (arith, length_push text 10, c.text-line.ensures.short)) ∙ ap ended c.text-line.ensures.value

pub returns-clause-short : goal.returns-clause-short
returns-clause-short c = omega (arith, ap length c.push.ensures, length-take 128 (ended c.text-line.result))
