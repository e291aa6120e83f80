-- The four orders by one number of the instances. Assumes nothing.
use Rattle.std.specs.Prelude.{ℕ, Bool, cond, not, ◌&&◌, ◌==◌, nat_lt}
use Rattle.orders.specs.Laws.{Order}
use Rattle.orders.specs.declared.instance.Instance.{Instance}

-- the smaller key goes first, and of equal keys the lower row; of one row neither does
abbrev pub smaller_first : (a_key a_row b_key b_row : ℕ) → Bool
smaller_first a_key a_row b_key b_row = cond (a_key == b_key) (nat_lt a_row b_row) (nat_lt a_key b_key && not (a_row == b_row))

-- the order by a number of the instance
abbrev pub by_key : (Instance → ℕ) → Order
by_key key a b = smaller_first (key a) a.row (key b) b.row

-- the shorter period first
abbrev pub rate_monotonic : Order
rate_monotonic = by_key (λ i. i.period)

-- the shorter deadline first
abbrev pub deadline_monotonic : Order
deadline_monotonic = by_key (λ i. i.deadline)

-- the smaller priority number first
abbrev pub fixed_priority : Order
fixed_priority = by_key (λ i. i.priority)

-- the nearer deadline first
abbrev pub earliest_deadline : Order
earliest_deadline = by_key (λ i. i.left)
