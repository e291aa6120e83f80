-- How long a frame lasts, in bit times and in units of an elementary cycle. Assumes nothing.
use Rattle.std.specs.Prelude.{ℕ, ◌+◌, ◌-◌, ◌*◌, ◌/◌, ◌≤◌, cond, [], Ok, Err, Result, nat_lt}
use Rattle.bus.specs.Refusals.{Told, numbered}

-- a quotient rounded up
abbrev pub rounded_up : ℕ → ℕ → ℕ
rounded_up n by = (n + (by - 1)) / by

-- the bit times of a frame with so many data bytes
abbrev pub frame_bits : ℕ → ℕ
frame_bits bytes = 47 + 8 * bytes

-- the units of a cycle of so many bit times that a frame of so many takes: 255 units are the whole cycle
abbrev pub frame_units : ℕ → ℕ → ℕ
frame_units cycle bits = rounded_up (255 * bits) cycle

-- 11: more than 8 data bytes; 12: the frame is longer than the cycle
abbrev pub frame_answer : ℕ → ℕ → Result ℕ Told
frame_answer cycle bytes =
    cond (nat_lt 8 bytes) (Err (numbered 11 [])) (cond (nat_lt cycle (frame_bits bytes)) (Err (numbered 12 [])) (Ok (frame_units cycle (frame_bits bytes))))

-- so many units of the cycle hold a frame of so many bit times
abbrev pub Holds : ℕ → ℕ → ℕ → Type 0
Holds cycle bits units = 255 * bits ≤ units * cycle

-- they hold it, no fewer do, and they lie in 1 to 255
pub record Smallest (cycle bits units : ℕ) : Type 0 where
  pub some : 1 ≤ units
  pub within : units ≤ 255
  pub holds : Holds cycle bits units
  pub least : (others : ℕ) → Holds cycle bits others → units ≤ others
