-- The codes of the four orders. Assumes nothing.
use Rattle.std.specs.Prelude.{ℕ, cond, Some, None, Option, ◌==◌}
use Rattle.orders.specs.ByKey.{rate_monotonic, deadline_monotonic, fixed_priority, earliest_deadline}
use Rattle.orders.specs.Laws.{Order}
use Rattle.orders.specs.declared.selector.Selector.{Selector}
use Rattle.orders.specs.declared.selector.Selector.TheVariants.{RateMonotonic, DeadlineMonotonic, FixedPriority, EarliestDeadline}

-- the code, which is the label of the order that it selects
abbrev pub code_of : Selector → ℕ
code_of RateMonotonic = 0
code_of DeadlineMonotonic = 1
code_of FixedPriority = 2
code_of EarliestDeadline = 3

-- the order that is selected
abbrev pub order_of : Selector → Order
order_of RateMonotonic = rate_monotonic
order_of DeadlineMonotonic = deadline_monotonic
order_of FixedPriority = fixed_priority
order_of EarliestDeadline = earliest_deadline

-- the selector of a code, and none for a code above 3
abbrev pub coded : ℕ → Option Selector
coded code =
    cond (code == 0) (Some RateMonotonic)
    (cond (code == 1) (Some DeadlineMonotonic)
    (cond (code == 2) (Some FixedPriority)
    (cond (code == 3) (Some EarliestDeadline) None)))
