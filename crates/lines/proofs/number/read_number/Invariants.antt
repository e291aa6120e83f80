use Rattle.std.proofs.Common.{◌≡◌, ◌≤◌, drop}
use Rattle.lines.specs.Numbers.{value_after, value}
use Rattle.lines.proofs.number.read_number.Given as goal

-- the digits that are left lead to the whole number
abbrev pub invariant-loop-digit : goal.invariant-loop-digit
invariant-loop-digit l =
    (value_after l.value (drop l.digit-index l.digits) ≡ value l.digits) × (l.value ≤ l.most)
