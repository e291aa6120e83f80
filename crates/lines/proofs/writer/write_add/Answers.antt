use Rattle.std.proofs.Common.{◌≡◌, ◌-◌, ◌≤◌, ◌++◌, length, drop, Ok, sym, ◌∙◌, subst, arith}
use Rattle.lines.specs.declared.form.Form.TheVariants.{Add}
use Rattle.lines.specs.Spelling.{spell, FiguresFit}
use Rattle.lines.specs.Writing.{Writes}
use Rattle.lines.proofs.Writes.{writes}
use Rattle.lines.proofs.writer.write_add.Goals as goal

pub returns : goal.returns
returns c =
    let bytes = c.bytes-bytes.result.now in
    let before = c.args.buffer.now in
    let text : bytes ≡ spell (Add c.args.row c.args.figures) = c.bytes-bytes.ensures.value ∙ c.add_text-text.ensures in
    let copied : c.copy_from_slice.new.self ≡ bytes = c.copy_from_slice.ensures.after in
    let end : length bytes - 0 ≡ length bytes = omega arith in
    let fit : FiguresFit c.args.figures = (omega arith, omega arith, omega arith, omega arith, omega arith) in
    subst (λ b. length b ≤ length before → c.copy_from_slice.new.self ++ drop (length bytes - 0) before ≡ b ++ drop (length b) before → Writes (Ok c.args.figures) c.args.row before (c.copy_from_slice.new.self ++ drop (length bytes - 0) before) (Ok (length b)))
    (sym text) (writes c.args.row c.args.figures before _ (omega arith) fit) (omega arith)
    (λ i. copied i ++ drop (end i) before)
