use Rattle.std.proofs.Common.{◌≡◌, length}
use Rattle.master.proofs.main.Given as goal

abbrev pub invariant-loop : goal.invariant-loop
invariant-loop l = length l.part ≡ 4096
