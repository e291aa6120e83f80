use Rattle.std.proofs.Common.{arith}
use Rattle.ftt.proofs.Soundness.{none_sound}
use Rattle.ftt.proofs.master.Master.new.Goals as goal

pub invariant_of-master : goal.invariant_of-master
invariant_of-master g c = record { sound = none_sound; «open» = omega arith }
