-- Sets of rows and the words that stand for them. Assumes nothing.
use Rattle.std.specs.Prelude.{ℕ, zero, suc, ◌+◌, ◌*◌, ◌/◌, ◌%◌, ◌^◌, Bool, cond, List, [], ◌∷◌, ◌==◌}
use Rattle.std.specs.List.{filter, range_with_len}

-- row r is in the set whose word is w: bit r of w
abbrev pub member : ℕ → ℕ → Bool
member w r = w / 2 ^ r % 2 == 1

-- which of the first n rows are in the set, row 0 first
unfoldable pub members : ℕ → ℕ → List Bool
members zero w = []
members (suc n) w = member w 0 ∷ members n (w / 2)

-- the word of the set that holds row k where the k-th of the list is true
unfoldable pub word_of : List Bool → ℕ
word_of [] = 0
word_of (b ∷ bs) = cond b 1 0 + 2 * word_of bs

-- the rows of the set, the lowest first
unfoldable pub rows_of : ℕ → List ℕ
rows_of w = filter (member w) (range_with_len 0 32)
