use Rattle.std.proofs.Common.{rules, tests, ◌≡◌, Bool, true, false, ltb, Option}
use Rattle.std.proofs.lemmas.Iterator.{YieldsList-from_slice, IsFirst-from_position}
use Rattle.engine.specs.declared.row.Row.{Row}
use Rattle.engine.specs.Cycle.{used_and}
use Rattle.ftt.proofs.Searches.{lowest_is_first}
use Rattle.ftt.proofs.master.checks.first_above.Goals as goal

pub returns-clause-first : goal.returns-clause-first
returns-clause-first c =
    let above : Option Row → Bool = used_and (λ row. ltb c.args.window row.figures.duration) in
    lowest_is_first above c.args.rows.now (cc) c.position.result (IsFirst-from_position _ _ c.position.result (λ s. above s ≡ true) (λ s. above s ≡ false) c.position.ensures.ran (YieldsList-from_slice c.args.rows.now cc) (λ x q k. search (rules, tests)) (λ x q k. search (rules, tests)))
