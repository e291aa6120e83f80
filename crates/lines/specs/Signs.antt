-- The signs of a line, by their codes. Assumes nothing.
use Rattle.std.specs.Prelude.{ℕ, Bool, true, false, cond, ◌&&◌, ◌==◌, nat_le}
use Rattle.lines.specs.declared.sign.Sign.{Sign}
use Rattle.lines.specs.declared.sign.Sign.TheVariants.{Letter, Digit, Space, Open, Close, Other}

abbrev between : ℕ → ℕ → ℕ → Bool
between low high c = nat_le low c && nat_le c high

-- a to z, 0 to 9, the space and the two brackets
abbrev pub sign_of : ℕ → Sign
sign_of c =
    cond (between 97 122 c) Letter (cond (between 48 57 c) Digit (cond (c == 32) Space (cond (c == 40) Open (cond (c == 41) Close Other))))

-- a word or a number goes up to a space or the closing bracket
abbrev pub ends_part : Sign → Bool
ends_part Letter = false
ends_part Digit = false
ends_part Space = true
ends_part Open = false
ends_part Close = true
ends_part Other = false

abbrev pub is_end : ℕ → Bool
is_end b = ends_part (sign_of b)
