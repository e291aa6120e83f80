use Rattle.std.proofs.Common.{◌≡◌, take}
use Rattle.bus.specs.Rows.{word_of}
use Rattle.bus.proofs.rows.RowSet.from_rows.Given as goal

abbrev pub invariant-loop-r : goal.invariant-loop-r
invariant-loop-r l = l.word ≡ word_of (take l.r l.rows)
