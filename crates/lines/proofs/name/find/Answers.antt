use Rattle.std.proofs.Common.{rules, tests, ◌∙◌}
use Rattle.std.specs.Str.{bytes_eq}
use Rattle.std.proofs.lemmas.Iterator.{YieldsList-from_slice}
use Rattle.std.proofs.lemmas.Iterator.Search.{find_from_yields_List}
use Rattle.lines.proofs.name.find.Goals as goal

pub returns : goal.returns
returns g c =
    c.copied.ensures
    ∙ find_from_yields_List (λ x. bytes_eq c.args.text.now (g.N.Name.written x)) _ _ c.find.result c.find.ensures.ran (YieldsList-from_slice c.args.all.now cc) (λ x b q k. search (rules, tests))
