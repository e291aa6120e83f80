-- What is known of every table and every order, on which a master can build. Assumes nothing.
use Rattle.std.specs.Prelude.{◌≡◌, ℕ, ◌+◌, ◌≤◌, true, Some, None, Option}
use Rattle.orders.specs.Laws.{Order}
use Rattle.engine.specs.declared.row.Row.{Row}
use Rattle.engine.specs.Rows.{waits}
use Rattle.engine.specs.Cycle.{Slots, Rules, used_and, release, scheduled, late, after}
use Rattle.engine.specs.Comparison.{Sound, Lighter}
use Rattle.engine.specs.Rehearsal.{divided_by, lead_in}

abbrev pub bus : Order → (rows window : ℕ) → Rules
bus goes n window = record { goes = goes; window = window; rows = n }

-- Fewer rows waiting, a row gone or a wider window: so many cycles on the first table is still the lighter one. What
-- the second then schedules the first schedules, unless it waits there no longer, and it is late only where the second is.
pub record NoLater (wide narrow : Rules) (t s : Slots) : Type 0 where
  pub lighter : Lighter t s
  pub serves : (r : ℕ) → used_and waits (release t r) ≡ true → scheduled narrow (release s) r ≡ true → scheduled wide (release t) r ≡ true
  pub late : (r : ℕ) → late wide t r ≡ true → late narrow s r ≡ true

abbrev pub LighterIsNoLater : Type 0
LighterIsNoLater =
    (goes : Order) (n wide narrow : ℕ) → narrow ≤ wide → (t s : Slots) → Sound t → Sound s → Lighter t s
    → (k : ℕ) → NoLater (bus goes n wide) (bus goes n narrow) (after (bus goes n wide) k t) (after (bus goes n narrow) k s)

-- both empty, or the same message at the same point of its period
abbrev pub SameTurn : Option Row → Option Row → Type 0
SameTurn None None = Unit {0}
SameTurn None (Some b) = ⊥
SameTurn (Some a) None = ⊥
SameTurn (Some a) (Some b) = (a.figures ≡ b.figures) × (a.wait ≡ b.wait)

-- Once the lead-in is over, every wait comes back after a number of cycles that every period divides.
abbrev pub WaitsComeBack : Type 0
WaitsComeBack =
    (rules : Rules) (t : Slots) (cycles : ℕ) → Sound t → ((r : ℕ) → rules.rows ≤ r → t r ≡ None) → ((r : ℕ) → divided_by (t r) cycles ≡ true)
    → (r : ℕ) → SameTurn (after rules (lead_in rules.rows t + cycles) t r) (after rules (lead_in rules.rows t) t r)
