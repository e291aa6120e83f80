use Rattle.std.proofs.Common.{◌≡◌, ◌+◌, ◌-◌, ◌≤◌, length, sym, ap, ◌∙◌, subst, arith}
use borrow.Rule.Slice.PartMut.{put_mid}
use Rattle.std.proofs.lemmas.Bool.{leb-true}
use Rattle.bus.specs.Triggers.{trigger_bytes, NamedIn, put_at}
use Rattle.bus.proofs.Triggers.{named_by_bytes, part_written, put_at_holds}
use Rattle.bus.proofs.trigger.write_trigger.Goals as goal

pub returns-clause-places : goal.returns-clause-places
returns-clause-places c =
    let at = c.args.offset in
    let buffer = c.args.buffer.now in
    let part = trigger_bytes c.args.rows.word in
    let room : at ≤ length buffer = omega (arith, leb-true _ _ (sym c.if-not-fits.ensures)) in
    let there : put_mid at ((at + 4) - at) buffer c.put.new.part ≡ put_at at part buffer =
    ap (put_mid at ((at + 4) - at) buffer) c.put.ensures ∙ part_written at ((at + 4) - at) buffer part (omega arith) in
    subst (λ b. NamedIn c.args.rows.word b at) (sym there) (named_by_bytes _ _ _ (λ k h. put_at_holds part _ _ k room h))
