-- A used row, and what one cycle does to it. Assumes nothing.
use Rattle.std.specs.Prelude.{ℕ, ◌+◌, ◌-◌, Bool, cond, not, ◌&&◌, ◌||◌, ◌==◌, nat_le, nat_lt}
use Rattle.orders.specs.declared.instance.Instance.{Instance}
use Rattle.engine.specs.declared.row.Row.{Row}

-- the waiting instance of a row, as an order sees it
abbrev pub instance_of : ℕ → Row → Instance
instance_of r row =
    record {
      row = r;
      duration = row.figures.duration;
      period = row.figures.period;
      deadline = row.figures.deadline;
      priority = row.figures.priority;
      left = row.left;
    }

-- a row whose wait is 0 releases an instance
abbrev pub released : Row → Row
released row =
    cond (row.wait == 0) (record { figures = row.figures; wait = row.figures.period; left = row.figures.deadline }) row

abbrev pub waits : Row → Bool
waits row = nat_lt 0 row.left

-- the cycle's end: a scheduled instance is gone, the deadline of any other is one cycle nearer, and so is the next release
abbrev pub closed : Bool → Row → Row
closed scheduled row = record { figures = row.figures; wait = row.wait - 1; left = cond scheduled 0 (row.left - 1) }

-- unscheduled in the last cycle before the deadline: late
abbrev pub misses : Bool → Row → Bool
misses scheduled row = not scheduled && row.left == 1

-- what every row keeps between cycles: its figures are in range, and a waiting instance was released in time for its deadline
abbrev pub sound : Row → Bool
sound row =
    nat_le 1 row.figures.duration && nat_le 1 row.figures.period && nat_le 1 row.figures.deadline && nat_le row.figures.deadline row.figures.period
    && (row.left == 0 || row.left + row.figures.period == row.figures.deadline + row.wait)
