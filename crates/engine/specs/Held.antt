-- The table as the code holds it, and what the steps of a cycle work out. Assumes nothing.
use Rattle.std.specs.Prelude.{◌≡◌, ℕ, ◌+◌, ◌-◌, ◌<◌, ◌≤◌, Bool, true, cond, ◌&&◌, List, map, length, get_or, take, Some, None, sum_by, Option, nat_le, slice_index, slice_index_or}
use Rattle.std.specs.List.{range_with_len}
use Rattle.std.specs.Option.{option_map}
use Rattle.std.specs.List.Sorted.{IsPermutation}
use Rattle.bus.specs.Rows.{member, word_of}
use Rattle.orders.specs.Laws.{Order}
use Rattle.orders.specs.declared.instance.Instance.{Instance}
use Rattle.engine.specs.declared.row.Row.{Row}
pub use Rattle.engine.specs.Columns.{no_instance}
use Rattle.engine.specs.declared.columns.Columns.{Columns}
use Rattle.engine.specs.declared.rules.Rules.{Rules as By}
use Rattle.engine.specs.Rows.{instance_of, waits, closed, misses}
use Rattle.engine.specs.Cycle.{Slots, Rules, used_and, waiters, load, fits}

-- what each row of the list holds; past its end nothing
abbrev pub slots : List (Option Row) → Slots
slots rows r = slice_index_or rows r None

-- the rules of a master: 32 rows
abbrev pub rules_of : Order → (window : ℕ) → Rules
rules_of goes window = record { goes = goes; window = window; rows = 32 }

abbrev pub rules_by : {P : Type 0} → (P → Order) → By P → Rules
rules_by goes by = rules_of (goes by.policy.now) by.window

-- THE TABLE IN COLUMNS

-- what a policy sees of a row; an empty row never waits, since its deadline is 0, and comes up for release as seldom as can be
abbrev pub kind_of : ℕ → Option Row → Instance
kind_of r None = record { row = 0; duration = 0; period = 255; deadline = 0; priority = 0; left = 0 }
kind_of r (Some row) = instance_of r row

abbrev pub left_of : Option Row → ℕ
left_of None = 0
left_of (Some row) = row.left

-- the instance of row r with so much left
abbrev pub seen : (r left : ℕ) → Instance → Instance
seen r left i = record { row = r; duration = i.duration; period = i.period; deadline = i.deadline; priority = i.priority; left = left }

-- row r of the columns is what a slot holds
abbrev pub StandsSlot : (r : ℕ) → Instance → (wait left : ℕ) → Option Row → Type 0
StandsSlot r kind wait left None = (kind.deadline ≡ 0) × (left ≡ 0)
StandsSlot r kind wait left (Some row) = (seen r left kind ≡ instance_of r row) × (wait ≡ row.wait)

-- the columns are those of a table
pub record Stands (kinds : List Instance) (waits lefts : List ℕ) (t : Slots) : Type 0 where
  pub at : (r : ℕ) → r < 32 → StandsSlot r (slice_index_or kinds r no_instance) (slice_index waits r) (slice_index lefts r) (t r)
  pub past : (r : ℕ) → 32 ≤ r → t r ≡ None

abbrev pub shows : Columns → Slots → Type 0
shows columns t = Stands columns.kinds columns.waits columns.lefts t

-- the used rows of a table with other counters
abbrev pub counted : (waits lefts : List ℕ) → Slots → Slots
counted waits lefts t r = option_map (λ row. record { figures = row.figures; wait = slice_index waits r; left = slice_index lefts r }) (t r)

-- each number is one less, and 0 stays
abbrev pub Nearer : List ℕ → List ℕ → Type 0
Nearer old new = (k : ℕ) → k < 32 → slice_index new k ≡ slice_index old k - 1

-- THE LINE

-- the durations, added up
abbrev pub total : List Instance → ℕ
total xs = sum_by (λ i. i.duration) xs

abbrev pub RisingRows : List Instance → Type 0
RisingRows xs = (j k : ℕ) → j < k → k < length xs → (get_or xs j no_instance).row < (get_or xs k no_instance).row

abbrev pub RowsBelow : ℕ → List Instance → Type 0
RowsBelow n xs = (k : ℕ) → k < length xs → (get_or xs k no_instance).row < n

-- each goes before all that come after it
abbrev pub Ordered : Order → List Instance → Type 0
Ordered goes xs = (j k : ℕ) → j < k → k < length xs → goes (slice_index_or xs j no_instance) (slice_index_or xs k no_instance) ≡ true

-- a line of all the waiting instances, in which an instance fits exactly when it fits behind those before it in the line
pub record Queue (goes : Order) (window : ℕ) (all line : List Instance) : Type 0 where
  pub shuffled : IsPermutation all line
  pub fit : (k : ℕ) → k < length line → nat_le (total (take (k + 1) line)) window ≡ fits goes window all (slice_index_or line k no_instance)

-- the first n of a line are scheduled, and fit: they are the rows of the word, and wait no longer
pub record Served (line : List Instance) (window n word : ℕ) (old new : List ℕ) : Type 0 where
  pub few : n ≤ length line
  pub fits : total (take n line) ≤ window
  pub rows : (k : ℕ) → k < n → member word (get_or line k no_instance).row ≡ true
  pub others : (r : ℕ) → member word r ≡ true → (k : ℕ) × (k < n) × ((get_or line k no_instance).row ≡ r)
  pub lefts : (r : ℕ) → r < 32 → slice_index new r ≡ cond (member word r) 0 (slice_index old r)

-- no more than the first n of a line fit
abbrev pub Full : List Instance → (window n : ℕ) → Type 0
Full line window n = n < length line → window < total (take (n + 1) line)

-- ROW BY ROW

-- an instance's duration and those of all that go before it: the smallest window in which it is scheduled
abbrev pub demand : Order → List Instance → Instance → ℕ
demand goes all i = i.duration + load goes all i

-- the numbers begin with the demands of the instances, in their order
abbrev pub Demands : Order → List Instance → List ℕ → Type 0
Demands goes all numbers = (k : ℕ) → k < length all → slice_index numbers k ≡ demand goes all (slice_index_or all k no_instance)

-- an instance x is counted in the demands of those of the first n that it goes before; the numbers after them stay
pub record CountedIn (goes : Order) (all : List Instance) (x : Instance) (n : ℕ) (old new : List ℕ) : Type 0 where
  pub first : (k : ℕ) → k < n → slice_index new k ≡ slice_index old k + cond (goes (slice_index_or all k no_instance) x) 0 x.duration
  pub rest : (k : ℕ) → n ≤ k → slice_index new k ≡ slice_index old k

-- whether row r waits and the demand of its instance, which comes after those of the waiting rows below it, is within the window
abbrev pub within : (demands : List ℕ) → (window : ℕ) → Slots → ℕ → Bool
within demands window t r = used_and (λ row. waits row && nat_le (slice_index demands (length (waiters r t))) window) (t r)

-- the table at the end of a cycle, by which rows were scheduled
abbrev pub closed_by : (scheduled : ℕ → Bool) → Slots → Slots
closed_by scheduled t r = option_map (closed (scheduled r)) (t r)

-- which rows are late, by which were scheduled
abbrev pub late_by : (scheduled : ℕ → Bool) → Slots → ℕ → Bool
late_by scheduled t r = used_and (misses (scheduled r)) (t r)

-- the word of the rows below n that pass a test
unfoldable pub word_below : ℕ → (ℕ → Bool) → ℕ
word_below n test = word_of (map test (range_with_len 0 n))
