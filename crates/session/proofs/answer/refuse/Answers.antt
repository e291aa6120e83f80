use Rattle.std.proofs.Common.{◌≡◌, ◌∙◌}
use Rattle.bus.specs.Refusals.{told}
use Rattle.session.proofs.Texts.{located, located_is}
use Rattle.session.proofs.answer.refuse.Goals as goal

pub returns-in-BadSign : goal.returns-in-BadSign
returns-in-BadSign c =
    let place = c.in-BadSign.place in
    let fault = c.args.fault in
    let number : c.from-in-BadSign.result ≡ (told fault.refusal).number = cc in
    let line : c.from-line.result ≡ fault.line = cc in
    let text = c.worded-in-BadSign.ensures in
    record {
      value = text.value ∙ (λ i. located (number i) (line i) place) ∙ located_is fault.line place fault.refusal c.in-BadSign.is;
      short = text.short;
      ascii = text.ascii;
    }
