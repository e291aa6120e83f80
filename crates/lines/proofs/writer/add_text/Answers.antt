use Rattle.std.proofs.Common.{◌+◌, [], ◌∷◌, ◌++◌, map, get_or, drop, length, decimal, sym, ap, ◌∙◌, arith}
use Rattle.std.proofs.lemmas.List.{at_drop_more, at_drop_all, take_all}
use Rattle.text.specs.Texts.{grown}
use Rattle.text.proofs.Grown.{pushed}
use Rattle.lines.specs.declared.form.Form.TheVariants.{Add}
use Rattle.lines.specs.declared.word.Word.TheVariants as word
use Rattle.lines.specs.Forms.{word_text}
use Rattle.lines.specs.Grammar.{closing, line_of}
use Rattle.lines.specs.Spelling.{spell}
use Rattle.lines.proofs.Writes.{add_short}
use Rattle.lines.proofs.writer.add_text.Goals as goal

pub loop-number-preserved : goal.loop-number-preserved
loop-number-preserved c =
    let numbers = c.add_numbers-number-items.result in
    let i = c.loop-number.number-index in
    let digits = decimal (get_or numbers i 0) in
    let between = c.push-in-loop-number.new.self in
    let rest = closing (map decimal (drop (i + 1) numbers)) in
    pushed 128 between digits _ rest (c.push_number.ensures ∙ ap (λ n. grown 128 between (decimal n)) c.from.ensures)
    ∙ pushed 128 c.loop-number.text (32 ∷ []) _ (digits ++ rest) c.push-in-loop-number.ensures
    ∙ ap (grown 128 c.loop-number.text) (sym (at_drop_more (λ ns. closing (map decimal ns)) numbers i 0 (omega (arith, ap length c.add_numbers-number-items.ensures))))
    ∙ c.loop-number.invariant

pub returns : goal.returns
returns c =
    let numbers = c.add_numbers-number-items.result in
    let f = c.args.figures in
    c.push-2.ensures
    ∙ ap (grown 128 c.loop-number.text) (sym (at_drop_all (λ ns. closing (map decimal ns)) numbers c.loop-number.number-index (omega (arith, ap length c.add_numbers-number-items.ensures))))
    ∙ c.loop-number.invariant
    ∙ ap (λ ns. grown 128 [] (line_of (word_text word.Add) (map decimal ns))) c.add_numbers-number-items.ensures
    ∙ take_all 128 (spell (Add c.args.row f)) (add_short c.args.row f (omega arith) (omega arith, omega arith, omega arith, omega arith, omega arith))
