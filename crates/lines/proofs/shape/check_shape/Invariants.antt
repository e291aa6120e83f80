use Rattle.std.proofs.Common.{◌≡◌, drop}
use Rattle.lines.specs.declared.shape.Stage.TheVariants.{Opening}
use Rattle.lines.specs.Shapes.{misplaced}
use Rattle.lines.proofs.shape.check_shape.Given as goal

-- what is left of the line decides where it is at fault
abbrev pub invariant-loop-place : goal.invariant-loop-place
invariant-loop-place l = misplaced l.stage l.place (drop l.place l.line) ≡ misplaced Opening 0 l.line
