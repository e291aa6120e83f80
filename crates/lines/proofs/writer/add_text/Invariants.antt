use Rattle.std.proofs.Common.{◌≡◌, [], map, drop, decimal}
use Rattle.text.specs.Texts.{grown}
use Rattle.lines.specs.declared.word.Word.TheVariants.{Add}
use Rattle.lines.specs.Forms.{word_text}
use Rattle.lines.specs.Grammar.{closing, line_of}
use Rattle.lines.proofs.writer.add_text.Given as goal

-- with the items that are left it will be the whole line
abbrev pub invariant-loop-number : goal.invariant-loop-number
invariant-loop-number l =
    grown 128 l.text (closing (map decimal (drop l.number-index l.number-items)))
    ≡ grown 128 [] (line_of (word_text Add) (map decimal l.number-items))
