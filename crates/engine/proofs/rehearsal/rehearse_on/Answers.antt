use Rattle.std.proofs.Common.{◌≡◌, Some, None, sym, ap, ◌∙◌, arith}
use Rattle.std.specs.Option.{option_map}
use Rattle.std.proofs.lemmas.List.{get_or_past}
use Rattle.engine.specs.declared.verdict.Verdict.{Verdict}
use Rattle.engine.specs.Held.{slots, rules_by}
use Rattle.engine.specs.Rehearsal.{verdict}
use Rattle.engine.proofs.Rehearsed.{calm_when_rehearsed, first_late_when_late}
use Rattle.engine.proofs.rehearsal.rehearse_on.Goals as goal

same_verdict : {v w : Verdict} → Some v ≡ Some w → v ≡ w
same_verdict e = cc

pub returns : goal.returns
returns g c =
    let rules = rules_by g.P.Policy.goes c.args.rules.now in
    let t = slots c.args.rows.now in
    let round = c.args.cycles in
    let judged : c.judge.result ≡ verdict rules round t = c.judge.ensures t c.requires.held c.lead_in.ensures in
    record {
      value = ap Some judged ∙ ap (option_map (λ m. verdict rules m t)) c.requires.rounds;
      calm = λ sound is.
          calm_when_rehearsed rules.goes 32 rules.window 5040 round t (λ r past. get_or_past c.args.rows.now r None (omega arith)) sound (sym c.requires.rounds) (sym judged ∙ same_verdict is);
      late = λ row cycle is. first_late_when_late rules round row cycle t (sym judged ∙ same_verdict is);
    }
