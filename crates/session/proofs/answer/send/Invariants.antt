use Rattle.std.proofs.Common.{◌≡◌, [], ◌++◌, codes, drop}
use Rattle.text.specs.Texts.{grown}
use Rattle.session.proofs.Texts.{digits}
use Rattle.session.proofs.answer.send.Given as goal

-- with what is left it will be the whole
abbrev pub invariant-loop-byte : goal.invariant-loop-byte
invariant-loop-byte l = grown 128 l.text (digits (drop l.byte-index l.byte-items)) ≡ grown 128 [] (codes "(send" ++ digits l.byte-items)
