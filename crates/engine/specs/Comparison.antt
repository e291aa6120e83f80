-- Two tables side by side, and tables that are never late. Assumes nothing.
use Rattle.std.specs.Prelude.{◌≡◌, ℕ, ◌-◌, ◌<◌, ◌≤◌, true, false, Some, None, Option}
use Rattle.engine.specs.declared.row.Row.{Row}
use Rattle.engine.specs.Rows.{waits, sound}
use Rattle.engine.specs.Cycle.{Slots, Rules, late, late_row, after}

abbrev pub SoundSlot : Option Row → Type 0
SoundSlot None = Unit {0}
SoundSlot (Some row) = sound row ≡ true

-- every used row is sound
abbrev pub Sound : Slots → Type 0
Sound t = (r : ℕ) → SoundSlot (t r)

-- the same message at the same point of its period, which waits in the first only if it waits in the second
pub record SameOrDone (a b : Row) : Type 0 where
  pub figures : a.figures ≡ b.figures
  pub wait : a.wait ≡ b.wait
  pub waits : waits a ≡ true → waits b ≡ true

abbrev pub LighterSlot : Option Row → Option Row → Type 0
LighterSlot None b = Unit {0}
LighterSlot (Some a) None = ⊥
LighterSlot (Some a) (Some b) = SameOrDone a b

-- the first table has some of the second's messages, at the same points of their periods, and fewer waiting
abbrev pub Lighter : Slots → Slots → Type 0
Lighter t s = (r : ℕ) → LighterSlot (t r) (s r)

-- no row is late in any coming cycle
abbrev pub Calm : Rules → Slots → Type 0
Calm rules t = (k r : ℕ) → late rules (after rules k t) r ≡ false

-- row r is the lowest that is late in the coming cycle c, the first being 1, and no row is late before
pub record FirstLate (rules : Rules) (t : Slots) (r c : ℕ) : Type 0 where
  pub counted : 1 ≤ c
  pub late : late_row rules (after rules (c - 1) t) ≡ Some r
  pub quiet : (k : ℕ) → k < c - 1 → late_row rules (after rules k t) ≡ None
