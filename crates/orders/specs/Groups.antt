-- Orders over an order: a group of instances goes before all the others. Assumes nothing.
use Rattle.std.specs.Prelude.{ℕ, Bool, false, cond, not, ◌&&◌, ◌==◌, nat_le}
use Rattle.orders.specs.Laws.{Order}
use Rattle.orders.specs.declared.instance.Instance.{Instance}

-- the group goes first, and within it and outside it the order below decides; of one row neither goes first
abbrev pub group_first : (Instance → Bool) → Order → Order
group_first in_group below a b =
    cond (in_group a)
    (cond (in_group b) (below a b) (not (a.row == b.row)))
    (cond (in_group b) false (below a b))

-- at most the limit is left
abbrev pub is_urgent : (limit : ℕ) → Instance → Bool
is_urgent limit i = nat_le i.left limit

-- urgent instances first, then the order below
abbrev pub urgent_first : (limit : ℕ) → Order → Order
urgent_first limit = group_first (is_urgent limit)

-- of the pinned row; the rows end at 31, and a row above it pins none
abbrev pub is_pinned : (row : ℕ) → Instance → Bool
is_pinned row i = i.row == row && nat_le row 31

-- the pinned row first, then the order below
abbrev pub pinned_first : (row : ℕ) → Order → Order
pinned_first row = group_first (is_pinned row)
