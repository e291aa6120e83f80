use Rattle.std.proofs.Common.{◌*◌, sym, subst₂, arith}
use Rattle.std.proofs.lemmas.Bool.Decides.{nat_tests}
use Rattle.bus.specs.Frames.{frame_bits}
use Rattle.bus.proofs.Rounding.{Reaches, ceil_reaches, reaches_is}
use Rattle.bus.proofs.frame.frame_units.Goals as goal

reached : (c : goal.After-div_ceil) → Reaches (255 * frame_bits c.args.data_bytes) c.args.cycle_bits c.div_ceil.result
reached c =
    subst₂ (Reaches (255 * frame_bits c.args.data_bytes)) c.from-cycle_bits.ensures (sym c.div_ceil.ensures) (ceil_reaches _ _ (omega arith))

pub returns-clause-value : goal.returns-clause-value
returns-clause-value c = let q = reaches_is _ _ _ (reached c) in grind (arith, nat_tests)
