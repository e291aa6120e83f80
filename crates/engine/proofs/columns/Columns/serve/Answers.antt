use Rattle.std.proofs.Common.{◌+◌, ◌<◌, ◌≤◌, length, get_or, refl, ap, ◌∙◌, arith}
use Rattle.engine.specs.Held.{no_instance}
use Rattle.engine.proofs.Lines.{total_more}
use Rattle.engine.proofs.Serving.{served_none, served_more}
use Rattle.engine.proofs.columns.Columns.serve.Goals as goal

pub loop-next-init : goal.loop-next-init
loop-next-init c = (refl, refl, omega arith, refl, served_none c.args.line.now.items c.args.window c.args.self.now.lefts)

pub overflow_add-taken : goal.overflow_add-taken
overflow_add-taken c = record { fits = omega (arith, c.loop-next.invariant.2, c.duration-taken.ensures.bound, c.ranges.window.fits) }

pub returns-then-taken-from-clause-served : goal.returns-then-taken-from-clause-served
returns-then-taken-from-clause-served c =
    let line = c.args.line.now.items in
    let k = c.loop-next.next-index in
    let units = c.duration-taken.ensures.value ∙ ap (λ xs. (get_or xs k no_instance).duration) c.as_slice-next-items.ensures.value in
    (k, c.loop-next.invariant.4, λ h. omega (arith, total_more line k h, units, c.loop-next.invariant.3, c.if-taken-from.true, c.from.ensures))

pub loop-next-preserved : goal.loop-next-preserved
loop-next-preserved c =
    let line = c.args.line.now.items in
    let k = c.loop-next.next-index in
    let same = c.as_slice-next-items.ensures.value in
    let within : k < length line = omega (arith, c.loop-next-test.true, ap length same) in
    let units = c.duration-taken.ensures.value ∙ ap (λ xs. (get_or xs k no_instance).duration) same in
    let row_is = ap (λ xs. (get_or xs k no_instance).row) same in
    let fit : c.loop-next.taken + c.duration-taken.result ≤ c.args.window = omega (arith, c.if-taken-from.false, c.from.ensures) in (
      c.loop-next.invariant.0,
      c.loop-next.invariant.1,
      fit,
      omega (arith, total_more line k within, units, c.loop-next.invariant.3),
      rw c.from-in-loop-next.ensures
          (served_more line c.args.window k c.loop-next.word c.args.self.now.lefts c.loop-next.self.lefts c.loop-next.invariant.4 within (get_or c.as_slice-next-items.result.now k no_instance).row row_is
          (omega (arith, row_is, c.requires k within)) c.loop-next.self.in_step.lefts_long (omega (arith, fit, c.loop-next.invariant.3, units))),
    )

pub returns-clause-served : goal.returns-clause-served
returns-clause-served c = (c.loop-next.next-index, c.loop-next.invariant.4, λ h. absurd (omega (arith, c.loop-next-test.false, ap length c.as_slice-next-items.ensures.value)))
