-- One elementary cycle of a table. Assumes nothing.
use Rattle.std.specs.Prelude.{ℕ, zero, suc, ◌+◌, Bool, false, cond, ◌&&◌, List, [], ◌∷◌, ◌++◌, map, Some, None, Option, nat_le}
use Rattle.std.specs.List.{range_with_len}
use Rattle.std.specs.Option.{option_map}
use Rattle.bus.specs.Rows.{word_of}
use Rattle.orders.specs.Laws.{Order}
use Rattle.orders.specs.declared.instance.Instance.{Instance}
use Rattle.engine.specs.declared.row.Row.{Row}
use Rattle.engine.specs.Rows.{instance_of, released, waits, closed, misses}

-- what each row holds; a row that is not in use holds nothing
abbrev pub Slots : Type 0
Slots = ℕ → Option Row

abbrev pub first_of : {X : Type 0} → Option X → Option X → Option X
first_of None b = b
first_of (Some a) b = Some a

-- the lowest row below n that passes a test
unfoldable pub lowest : ℕ → (ℕ → Bool) → Option ℕ
lowest zero test = None
lowest (suc n) test = first_of (lowest n test) (cond (test n) (Some n) None)

-- a test of a used row, false of an empty one
abbrev pub used_and : (Row → Bool) → Option Row → Bool
used_and test None = false
used_and test (Some row) = test row

-- first, each row whose wait is over releases an instance
abbrev pub release : Slots → Slots
release t r = option_map released (t r)

abbrev pub waiter : ℕ → Option Row → List Instance
waiter r None = []
waiter r (Some row) = cond (waits row) (instance_of r row ∷ []) []

-- the waiting instances of the first n rows, in the order of the rows
unfoldable pub waiters : ℕ → Slots → List Instance
waiters zero t = []
waiters (suc n) t = waiters n t ++ waiter n (t n)

-- the durations, added up, of those that go before an instance
unfoldable pub load : Order → List Instance → Instance → ℕ
load goes [] i = 0
load goes (x ∷ xs) i = cond (goes x i) x.duration 0 + load goes xs i

-- an instance is scheduled exactly when its duration and those of all that go before it fit into the window
abbrev pub fits : Order → (window : ℕ) → List Instance → Instance → Bool
fits goes window all i = nat_le (i.duration + load goes all i) window

-- the rules of a bus: who goes first, the window, and the number of rows
pub record Rules : Type 0 where
  pub goes : Order
  pub window : ℕ
  pub rows : ℕ

-- whether row r of a table is scheduled, once the releases are made
abbrev pub scheduled : Rules → Slots → ℕ → Bool
scheduled rules t r = used_and (λ row. waits row && fits rules.goes rules.window (waiters rules.rows t) (instance_of r row)) (t r)

-- the table after one cycle
unfoldable pub cycle : Rules → Slots → Slots
cycle rules t r = option_map (closed (scheduled rules (release t) r)) (release t r)

-- whether row r is late in the coming cycle
unfoldable pub late : Rules → Slots → ℕ → Bool
late rules t r = used_and (misses (scheduled rules (release t) r)) (release t r)

-- the coming cycle's schedule as a word
unfoldable pub word : Rules → Slots → ℕ
word rules t = word_of (map (scheduled rules (release t)) (range_with_len 0 rules.rows))

-- the lowest row that is late in the coming cycle
unfoldable pub late_row : Rules → Slots → Option ℕ
late_row rules t = lowest rules.rows (late rules t)

-- the table after so many cycles
unfoldable pub after : Rules → ℕ → Slots → Slots
after rules zero t = t
after rules (suc k) t = after rules k (cycle rules t)
