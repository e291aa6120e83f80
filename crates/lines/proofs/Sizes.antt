-- How a number grows digit by digit. Assumes nothing.
use Rattle.std.proofs.Common.{◌≡◌, ℕ, ◌+◌, ◌-◌, ◌*◌, ◌<◌, ◌≤◌, false, leb, List, [], ◌∷◌, length, get_or, drop, None, arith}
use Rattle.std.proofs.lemmas.List.{at_drop_more}
use Rattle.std.proofs.lemmas.Bool.{lt-leb}
use Rattle.lines.specs.Numbers.{value_after, value, number_read}

-- a number grows with each digit
pub value_after_ge : (n : ℕ) (bs : List ℕ) → n ≤ value_after n bs
value_after_ge n [] = omega arith
value_after_ge n (b ∷ bs) = omega (arith, value_after_ge (n * 10 + (b - 48)) bs)

pub digit_more : (bs : List ℕ) (n i : ℕ) → i < length bs → value_after n (drop i bs) ≡ value_after (n * 10 + (get_or bs i 0 - 48)) (drop (i + 1) bs)
digit_more bs n i lt = at_drop_more (value_after n) bs i 0 lt

-- digits that lead past the limit
pub past : (most n i : ℕ) (bs : List ℕ) → value_after n (drop i bs) ≡ value bs → most < n → None ≡ number_read most bs
past most n i bs e gt =
    let big : leb (value bs) most ≡ false = lt-leb _ _ (omega (arith, value_after_ge n (drop i bs))) in
    grind (arith, big)
