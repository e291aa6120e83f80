use Rattle.std.proofs.Common.{length, ap, arith}
use Rattle.lines.specs.Parts.{left, last_place}
use Rattle.lines.specs.Forms.{kinds}
use Rattle.lines.proofs.Fits.{enough}
use Rattle.lines.proofs.reader.read_items.Goals as goal

pub figures-requires : goal.figures-requires
figures-requires c =
    let rest = c.args.rest in
    omega (arith, enough (last_place rest) (kinds c.args.word) (left rest) c.requires, ap (λ w. length (kinds w)) c.in-Add.is, ap length c.byte-in-Add.ensures.after)

pub figures-requires-in-Alter : goal.figures-requires-in-Alter
figures-requires-in-Alter c =
    let rest = c.args.rest in
    omega (arith, enough (last_place rest) (kinds c.args.word) (left rest) c.requires, ap (λ w. length (kinds w)) c.in-Alter.is, ap length c.byte-in-Alter.ensures.after)
