use Rattle.std.proofs.Common.{◌≡◌, ◌+◌, ◌-◌, sym, ap, ◌∙◌, ap₂, add_assoc, arith}
use Rattle.engine.specs.Cycle.{cycle}
use Rattle.engine.specs.Held.{rules_by}
use Rattle.engine.specs.Rehearsal.{stretch}
use Rattle.engine.proofs.Stretches.{ends_late, goes_on, is_over}
use Rattle.engine.proofs.rehearsal.run_stretch.Goals as goal

pub loop-done-init : goal.loop-done-init
loop-done-init g c =
    λ t was.
    let rules = rules_by g.P.Policy.goes c.args.rules.now in
    let all : c.args.cycles ≡ c.args.cycles - 0 = omega arith in
    let first : c.args.coming ≡ c.args.coming + 0 = omega arith in
    (t, was, λ next. ap₂ (λ k m. stretch rules k m next t) all first)

pub returns-in-Some : goal.returns-in-Some
returns-in-Some g c =
    λ t was.
    let rules = rules_by g.P.Policy.goes c.args.rules.now in
    let so_far = c.loop-done.invariant t was in (
      cycle rules so_far.0,
      c.run.ensures.after so_far.0 so_far.1,
      λ next.
          so_far.2 next
          ∙ ends_late rules c.args.cycles c.loop-done.done _ next so_far.0 _ c.loop-done-test.true (sym (c.run.ensures.late so_far.0 so_far.1) ∙ c.in-Some.is),
    )

pub loop-done-preserved : goal.loop-done-preserved
loop-done-preserved g c =
    λ t was.
    let rules = rules_by g.P.Policy.goes c.args.rules.now in
    let so_far = c.loop-done.invariant t was in (
      cycle rules so_far.0,
      c.run.ensures.after so_far.0 so_far.1,
      λ next.
          so_far.2 next
          ∙ goes_on rules c.args.cycles c.loop-done.done (c.args.coming + c.loop-done.done) next so_far.0 c.loop-done-test.true
          (sym (c.run.ensures.late so_far.0 so_far.1) ∙ c.in_default.is)
          ∙ ap (λ coming. stretch rules (c.args.cycles - (c.loop-done.done + 1)) coming next (cycle rules so_far.0)) (add_assoc c.args.coming c.loop-done.done 1),
    )

pub returns : goal.returns
returns g c =
    λ t was.
    let rules = rules_by g.P.Policy.goes c.args.rules.now in
    let so_far = c.loop-done.invariant t was in
    (so_far.0, so_far.1, λ next. so_far.2 next ∙ is_over rules c.args.cycles c.loop-done.done _ next so_far.0 c.loop-done-test.false)
