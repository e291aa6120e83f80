-- What rounding a quotient up gives. Assumes nothing.
use Rattle.std.proofs.Common.{◌≡◌, ℕ, ◌+◌, ◌*◌, ◌/◌, ◌%◌, ◌<◌, ◌≤◌, min, sym, ⊎_elim, mul-le-mul_right, add-mul, one-mul, arith}
use native.Mathlib.Nat.{div-eq_of_lt-le}
use Rattle.std.proofs.lemmas.Bool.{cases_lt}
use Rattle.std.proofs.lemmas.Grind.{div_ceil_times}
use Rattle.bus.specs.Frames.{rounded_up}

-- q times by reaches n, and passes it by less than one turn
abbrev pub Reaches : ℕ → ℕ → ℕ → Type 0
Reaches n by q = (n ≤ q * by) × (q * by < n + by)

turn : (q by : ℕ) → (q + 1) * by ≡ q * by + by
turn q by = omega (arith, add-mul q 1 by, one-mul by)

-- what `div_ceil` answers
pub ceil_reaches : (n by : ℕ) → 0 < by → Reaches n by (n / by + min 1 (n % by))
ceil_reaches = div_ceil_times

pub reaches_is : (n by q : ℕ) → Reaches n by q → q ≡ rounded_up n by
reaches_is n by q r = sym (div-eq_of_lt-le {k = q} by (omega arith) (omega (arith, turn q by)))

-- no smaller number reaches n
pub reaches_least : (n by q others : ℕ) → Reaches n by q → n ≤ others * by → q ≤ others
reaches_least n by q others r reach =
    ⊎_elim
    (λ (fewer : others < q). absurd (omega (arith, turn others by, mul-le-mul_right {m = others + 1} {n = q} by (omega arith))))
    (λ h. h)
    (cases_lt others q)
