use Rattle.std.proofs.Common.{◌≡◌, [], drop}
use Rattle.text.specs.Texts.{grown}
use Rattle.session.specs.Printed.{worded}
use Rattle.session.proofs.answer.worded.Given as goal

-- with what is left it will be the whole
abbrev pub invariant-loop-words : goal.invariant-loop-words
invariant-loop-words l = grown 128 l.text (worded (drop l.words-index l.numbered) l.end) ≡ grown 128 [] (worded l.numbered l.end)
