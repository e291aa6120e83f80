-- How much of the window a schedule takes. Assumes nothing.
use Rattle.std.specs.Prelude.{ℕ, zero, suc, ◌+◌, Bool, cond, Some, None, Option}
use Rattle.engine.specs.declared.row.Row.{Row}
use Rattle.engine.specs.Cycle.{Slots, Rules, release, scheduled}

abbrev pub units_of : Option Row → ℕ
units_of None = 0
units_of (Some row) = row.figures.duration

-- the durations, added up, of those of the first n rows that pass a test
unfoldable pub units : (ℕ → Bool) → Slots → ℕ → ℕ
units test t zero = 0
units test t (suc n) = units test t n + cond (test n) (units_of (t n)) 0

-- the durations, added up, of what the coming cycle schedules
abbrev pub scheduled_units : Rules → Slots → ℕ
scheduled_units rules t = units (scheduled rules (release t)) (release t) rules.rows
