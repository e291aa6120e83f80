use Rattle.std.proofs.Common.{rules, ◌≡◌, Some, set, subst, sym}
use Rattle.engine.specs.Held.{slots}
use Rattle.rules.specs.Calls.{new_row, put}
use Rattle.rules.specs.Calls.Call.{alter}
use Rattle.ftt.proofs.Soundness.{EachSound, kept}
use Rattle.ftt.proofs.master.Master.alter.Goals as goal

pub invariant_of-self : goal.invariant_of-self
invariant_of-self g c =
    let kept = kept g.P.Policy.goes c.args.self.now (alter c.args.row c.args.figures) _ (c.in_ok-judge_alter.ensures.judged 0) in
    let same : slots (set c.args.self.now.rows c.from-place.result (Some c.new_row.result)) ≡ put c.args.row (Some (new_row c.args.figures)) (slots c.args.self.now.rows) = search rules in
    record { sound = subst EachSound (sym same) kept.sound; «open» = kept.«open» }
