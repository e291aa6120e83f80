use Rattle.std.proofs.Common.{◌≡◌, take}
use Rattle.text.specs.Texts.{grown}
use Rattle.text.proofs.text.Text.push_all.Given as goal

-- the bytes passed so far stand behind what was there
abbrev pub invariant-loop-byte : goal.invariant-loop-byte
invariant-loop-byte g l = l.self ≡ grown g.row.ROOM l.initial.self (take l.byte-index l.part)
