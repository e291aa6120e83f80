use Rattle.std.proofs.Common.{◌≡◌, Some, Ok, sym, ap, arith}
use Rattle.lines.specs.declared.word.Kind.TheVariants.{Byte}
use Rattle.lines.specs.Parts.{left, last_place}
use Rattle.lines.specs.Forms.{kinds, misfit}
use Rattle.lines.specs.Reading.{unless, bad_item}
use Rattle.lines.proofs.Fits.{lacks}
use Rattle.lines.proofs.reader.check_items.Goals as goal

pub returns-in_default : goal.returns-in_default
returns-in_default c =
    let end = last_place c.args.rest in
    let same_line = c.in_default.ensures.steps.1 in
    let told = c.last_place.ensures in
    let e = lacks end c.kinds-kinds.result.now c.loop-kind.kind-index Byte (left c.loop-kind.rest) (omega arith) c.in_default.ensures.steps.0.0 in
    let same : c.last_place.result ≡ end = cc in
    let found : misfit end (kinds c.args.word) (left c.args.rest) ≡ Some c.last_place.result = cc in
    ap (λ o. unless bad_item o (Ok tt)) (sym found)
