use Rattle.std.proofs.Common.{rules, eqb, get_or}
use Rattle.engine.proofs.Lowest.{lowest_of_word}
use Rattle.engine.proofs.columns.Columns.first_late.Goals as goal

pub returns : goal.returns
returns c =
    let found = lowest_of_word (λ k. eqb (get_or c.args.self.now.lefts k 0) 1) c.rows_with-late.result c.rows_with-late.type_inv c.rows_with-late.ensures in search rules
