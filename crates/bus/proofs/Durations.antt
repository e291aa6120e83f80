-- The units that a frame takes, for frames of any length. Assumes nothing.
use Rattle.std.proofs.Common.{◌≡◌, ℕ, ◌*◌, ◌<◌, ◌≤◌, ap, ◌∙◌, ⊎_elim, mul-le-mul_left, zero-mul, arith}
use Rattle.std.proofs.lemmas.Bool.{cases_lt}
use Rattle.bus.specs.Frames.{Smallest}
use Rattle.bus.proofs.Rounding.{Reaches, reaches_least}

-- of a frame that is not empty and fits its cycle
pub smallest_when_reached : (cycle bits units : ℕ) → 0 < bits → bits ≤ cycle → Reaches (255 * bits) cycle units → Smallest cycle bits units
smallest_when_reached cycle bits units some short reached =
    record {
      some = ⊎_elim (λ h. h) (λ (none : units ≤ 0). let zero : units ≡ 0 = omega arith in absurd (omega (arith, ap (λ u. u * cycle) zero ∙ zero-mul cycle))) (cases_lt 0 units);
      within = reaches_least (255 * bits) cycle units 255 reached (mul-le-mul_left 255 short);
      holds = reached.0;
      least = λ others holds. reaches_least (255 * bits) cycle units others reached holds;
    }
