-- The rows that wait, as a word. Assumes nothing.
use Rattle.std.specs.Prelude.{ℕ, Bool, map}
use Rattle.std.specs.List.{range_with_len}
use Rattle.bus.specs.Rows.{word_of}
use Rattle.engine.specs.Rows.{waits}
use Rattle.engine.specs.Cycle.{Slots, used_and}

abbrev pub waits_at : Slots → ℕ → Bool
waits_at t r = used_and waits (t r)

-- the set of the waiting rows among the first n
unfoldable pub waiting_word : ℕ → Slots → ℕ
waiting_word n t = word_of (map (waits_at t) (range_with_len 0 n))
