use Rattle.rules.specs.Calls.Call.{set_window}
use Rattle.ftt.proofs.Soundness.{kept}
use Rattle.ftt.proofs.master.Master.set_window.Goals as goal

pub invariant_of-self : goal.invariant_of-self
invariant_of-self g c =
    let kept = kept g.P.Policy.goes c.args.self.now (set_window c.args.window) _ (c.in_ok-judge_window.ensures 0) in
    record { sound = kept.sound; «open» = kept.«open» }
