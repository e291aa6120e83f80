use Rattle.std.proofs.Common.{◌≡◌, drop}
use Rattle.lines.specs.Parts.{left, last_place}
use Rattle.lines.specs.Forms.{misfit}
use Rattle.lines.proofs.reader.check_items.Given as goal

-- the kinds and the items that are left decide
abbrev pub invariant-loop-kind : goal.invariant-loop-kind
invariant-loop-kind l =
    (l.rest.line ≡ l.initial.rest.line)
    × (misfit (last_place l.initial.rest) (drop l.kind-index l.kinds) (left l.rest)
    ≡ misfit (last_place l.initial.rest) l.kinds (left l.initial.rest))
