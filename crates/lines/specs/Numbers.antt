-- Numbers as a line writes them. Assumes nothing.
use Rattle.std.specs.Prelude.{ℕ, ◌+◌, ◌-◌, ◌*◌, Bool, false, cond, not, ◌&&◌, List, [], ◌∷◌, Some, None, Option, ◌==◌, nat_le}

-- the number that digits write after those that gave n
abbrev pub value_after : ℕ → List ℕ → ℕ
value_after n [] = n
value_after n (b ∷ bs) = value_after (n * 10 + (b - 48)) bs

abbrev pub value : List ℕ → ℕ
value digits = value_after 0 digits

-- a zero in front of other digits
abbrev pub needless : List ℕ → Bool
needless [] = false
needless (b ∷ []) = false
needless (b ∷ c ∷ bs) = b == 48

abbrev pub in_range : ℕ → List ℕ → Bool
in_range most digits = not (needless digits) && nat_le (value digits) most

abbrev pub number_read : ℕ → List ℕ → Option ℕ
number_read most digits = cond (in_range most digits) (Some (value digits)) None
