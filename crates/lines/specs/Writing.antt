-- A row is written as its add form. Assumes nothing.
use Rattle.std.specs.Prelude.{◌≡◌, ℕ, Bool, cond, List, [], ◌∷◌, ◌++◌, length, take, drop, Ok, Err, Result, nat_le}
use Rattle.bus.specs.declared.refusal.Refusal.{Refusal}
use Rattle.bus.specs.Refusals.{Told, numbered, answered}
use Rattle.engine.specs.declared.row.Figures.{Figures}
use Rattle.lines.specs.declared.form.Form.TheVariants.{Add}
use Rattle.lines.specs.Reading.{reading}
use Rattle.lines.specs.Spelling.{spell}

-- the numbers of a row's add form, in their order
abbrev pub add_numbers : ℕ → Figures → List ℕ
add_numbers row f = row ∷ f.duration ∷ f.period ∷ f.deadline ∷ f.phase ∷ f.priority ∷ []

-- whether the buffer has room for the text
abbrev pub has_room : List ℕ → List ℕ → Bool
has_room text buffer = nat_le (length text) (length buffer)

-- the length of the text, or 16 with the bytes that are needed
abbrev pub room_answer : List ℕ → List ℕ → Result ℕ Told
room_answer text buffer = cond (has_room text buffer) (Ok (length text)) (Err (numbered 16 (length text ∷ [])))

-- the text in front, and every byte beyond it as it was
abbrev pub put_first : List ℕ → List ℕ → List ℕ
put_first text buffer = cond (has_room text buffer) (text ++ drop (length text) buffer) buffer

-- a refusal of the row comes before one of the buffer
abbrev pub write_answer : Result Figures Told → ℕ → List ℕ → Result ℕ Told
write_answer (Ok figures) row buffer = room_answer (spell (Add row figures)) buffer
write_answer (Err refusal) row buffer = Err refusal

abbrev pub written : Result Figures Told → ℕ → List ℕ → List ℕ
written (Ok figures) row buffer = put_first (spell (Add row figures)) buffer
written (Err refusal) row buffer = buffer

-- a row, whose figures or refusal are `asked`, was written into a buffer that held `before` and then holds `after`
pub record Writes (asked : Result Figures Told) (row : ℕ) (before after : List ℕ) (r : Result ℕ Refusal) : Type 0 where
  -- the answer and the buffer are those of the definition
  pub value : answered r ≡ write_answer asked row before
  pub buffer : after ≡ written asked row before
  -- what is written reads as the row's add form
  pub reads_back : (n : ℕ) (figures : Figures) → r ≡ Ok n → asked ≡ Ok figures → reading (take n after) ≡ Ok (Add row figures)
  -- and no other line reads so
  pub only_so : (n : ℕ) (figures : Figures) (line : List ℕ) → r ≡ Ok n → asked ≡ Ok figures → reading line ≡ Ok (Add row figures) → line ≡ take n after
  -- every byte beyond it is as it was
  pub beyond : (n : ℕ) → r ≡ Ok n → drop n after ≡ drop n before
  -- and a refusal leaves every byte
  pub kept : (refusal : Refusal) → r ≡ Err refusal → after ≡ before
