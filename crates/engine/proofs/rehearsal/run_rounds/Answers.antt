use Rattle.std.proofs.Common.{◌+◌, ◌-◌, sym, refl, ◌∙◌, arith}
use Rattle.engine.specs.Held.{rules_by}
use Rattle.engine.proofs.Stretches.{then_on, next_round, no_round, settles, goes_round}
use Rattle.engine.proofs.rehearsal.run_rounds.Goals as goal

pub loop-done-init : goal.loop-done-init
loop-done-init g c = (omega arith, λ t was. (t, was, refl))

pub run_stretch-requires : goal.run_stretch-requires
run_stretch-requires g c = omega arith

pub overflow_add-coming : goal.overflow_add-coming
overflow_add-coming g c = record { fits = omega arith }

pub returns-in-Some : goal.returns-in-Some
returns-in-Some g c =
    λ t was.
    let rules = rules_by g.P.Policy.goes c.args.rules.now in
    let so_far = c.loop-done.invariant.1 t was in
    let next = then_on rules c.args.round (4 - (c.loop-done._done + 1)) c.loop-done.coming so_far.0 in
    sym (so_far.2 ∙ next_round rules c.args.round c.loop-done._done c.loop-done.coming so_far.0 c.loop-done-test.true ∙ (c.in-Some.ensures so_far.0 so_far.1).2 next)

pub returns-then-has_settled : goal.returns-then-has_settled
returns-then-has_settled g c =
    λ t was.
    let rules = rules_by g.P.Policy.goes c.args.rules.now in
    let so_far = c.loop-done.invariant.1 t was in
    let on = c.in_default.ensures so_far.0 so_far.1 in
    let left = 4 - (c.loop-done._done + 1) in
    let next = then_on rules c.args.round left c.loop-done.coming so_far.0 in
    let ended = c.if-has_settled.ensures.members so_far.0 on.0
    (λ k h. c.waiting-start.ensures so_far.0 so_far.1 k h) (λ k h. c.waiting.ensures on.0 on.1 k h) in
    sym (so_far.2 ∙ next_round rules c.args.round c.loop-done._done c.loop-done.coming so_far.0 c.loop-done-test.true ∙ on.2 next
    ∙ settles rules c.args.round left c.loop-done.coming so_far.0 on.0 (sym ended))

pub loop-done-preserved : goal.loop-done-preserved
loop-done-preserved g c =
    let rules = rules_by g.P.Policy.goes c.args.rules.now in
    let left = 4 - (c.loop-done._done + 1) in (
      omega arith,
      λ t was.
          let so_far = c.loop-done.invariant.1 t was in
          let on = c.in_default.ensures so_far.0 so_far.1 in
          let next = then_on rules c.args.round left c.loop-done.coming so_far.0 in
          let ended = c.if-has_settled.ensures.members so_far.0 on.0
          (λ k h. c.waiting-start.ensures so_far.0 so_far.1 k h) (λ k h. c.waiting.ensures on.0 on.1 k h) in (
            on.0,
            on.1,
            so_far.2 ∙ next_round rules c.args.round c.loop-done._done c.loop-done.coming so_far.0 c.loop-done-test.true ∙ on.2 next
                ∙ goes_round rules c.args.round left c.loop-done.coming so_far.0 on.0 (sym ended),
          ),
    )

pub returns : goal.returns
returns g c =
    λ t was.
    let so_far = c.loop-done.invariant.1 t was in
    sym (so_far.2 ∙ no_round _ c.args.round c.loop-done._done c.loop-done.coming _ c.loop-done-test.false)
