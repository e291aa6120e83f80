-- A trigger's bytes in the caller's frame buffer. Assumes nothing.
use Rattle.std.specs.Prelude.{◌≡◌, ℕ, ◌+◌, ◌*◌, ◌/◌, ◌%◌, ◌<◌, Bool, cond, List, [], ◌∷◌, ◌++◌, length, take, drop, Ok, Err, Result, nat_le, slice_index}
use Rattle.bus.specs.declared.rows.RowSet.{RowSet}
use Rattle.bus.specs.Refusals.{Told, numbered}
use Rattle.bus.specs.Rows.{member}

-- the four bytes of a word, the lowest first
abbrev pub trigger_bytes : ℕ → List ℕ
trigger_bytes w = w % 256 ∷ w / 256 % 256 ∷ w / 65536 % 256 ∷ w / 16777216 % 256 ∷ []

-- the word that the four bytes from an offset on stand for
abbrev pub trigger_word : List ℕ → ℕ → ℕ
trigger_word buffer offset =
    slice_index buffer offset + slice_index buffer (offset + 1) * 256 + slice_index buffer (offset + 2) * 65536 + slice_index buffer (offset + 3) * 16777216

-- byte k from the offset on holds rows 8k to 8k + 7, the lowest row in the lowest bit
abbrev pub NamedIn : ℕ → List ℕ → ℕ → Type 0
NamedIn w buffer offset = (r : ℕ) → r < 32 → member (slice_index buffer (offset + r / 8)) (r % 8) ≡ member w r

-- the buffer with these bytes at an offset, and every other byte as it was
abbrev pub put_at : ℕ → List ℕ → List ℕ → List ℕ
put_at offset part buffer = take offset buffer ++ (part ++ drop (offset + length part) buffer)

-- four bytes from the offset on lie inside the buffer
abbrev pub fits : List ℕ → ℕ → Bool
fits buffer offset = nat_le (offset + 4) (length buffer)

-- 10: they do not
abbrev pub write_answer : List ℕ → ℕ → Result (Unit {0}) Told
write_answer buffer offset = cond (fits buffer offset) (Ok tt) (Err (numbered 10 []))

abbrev pub written : ℕ → List ℕ → ℕ → List ℕ
written w buffer offset = cond (fits buffer offset) (put_at offset (trigger_bytes w) buffer) buffer

abbrev pub read_answer : List ℕ → ℕ → Result RowSet Told
read_answer buffer offset = cond (fits buffer offset) (Ok (record { word = trigger_word buffer offset })) (Err (numbered 10 []))
