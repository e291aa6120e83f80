use Rattle.std.proofs.Common.{rules, ◌≡◌, None, set, subst, sym}
use Rattle.engine.specs.Held.{slots}
use Rattle.rules.specs.Calls.{put}
use Rattle.rules.specs.Calls.Call.{drop}
use Rattle.ftt.proofs.Soundness.{EachSound, kept}
use Rattle.ftt.proofs.master.Master.drop_row.Goals as goal

pub invariant_of-self : goal.invariant_of-self
invariant_of-self g c =
    let kept = kept g.P.Policy.goes c.args.self.now (drop c.args.row) _ (c.in_ok-judge_drop.ensures.judged 0) in
    let same : slots (set c.args.self.now.rows c.from.result None) ≡ put c.args.row None (slots c.args.self.now.rows) = search rules in
    record { sound = subst EachSound (sym same) kept.sound; «open» = kept.«open» }
