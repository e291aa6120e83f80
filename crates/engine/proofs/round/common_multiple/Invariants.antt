use Rattle.std.proofs.Common.{◌≡◌, ℕ, suc, ◌+◌, ◌*◌, ◌%◌, ◌<◌}
use Rattle.engine.proofs.round.common_multiple.Given as goal

abbrev pub invariant-loop-times : goal.invariant-loop-times
invariant-loop-times l = (j : ℕ) → suc j < l.times → (l.step + j * l.step) % l.other ≡ 0 → ⊥
