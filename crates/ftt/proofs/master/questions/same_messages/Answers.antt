use Rattle.std.proofs.Common.{rules, tests, ◌≡◌}
use Rattle.std.proofs.lemmas.Iterator.{YieldsList-from_slice, YieldsList-from_zip, cases_from_all}
use Rattle.ftt.specs.Questions.{figures_of}
use Rattle.ftt.proofs.Searches.{all_slots_agree}
use Rattle.ftt.proofs.master.questions.same_messages.Goals as goal

pub returns : goal.returns
returns c =
    all_slots_agree figures_of c.args.a.now c.args.b.now (cc) (cc) c.all.result
    (cases_from_all c.all.new.self _ c.all.result (λ p. figures_of p.0 ≡ figures_of p.1) (λ p. figures_of p.0 ≡ figures_of p.1 → ⊥) c.all.ensures.ran (YieldsList-from_zip (YieldsList-from_slice c.args.a.now cc) (YieldsList-from_slice c.args.b.now cc)) (λ x q k. search (rules, tests)) (λ x q k. search (rules, tests)))
