-- What is printed for an answer. Assumes nothing.
use Rattle.std.specs.Prelude.{◌≡◌, ℕ, ◌+◌, ◌-◌, ◌/◌, ◌%◌, ◌^◌, ◌<◌, ◌≤◌, IsTrue, cond, List, [], ◌∷◌, ◌++◌, length, codes, decimal, nat_lt}
use Rattle.std.specs.Borrow.{Bor}
use Rattle.std.specs.Str.{IsAscii}
use Rattle.std.specs.Char.{is_ascii}
use Rattle.std.specs.List.{list_all}
use Rattle.bus.specs.Triggers.{trigger_bytes}
use Rattle.bus.specs.Refusals.{told, field_number}
use Rattle.bus.specs.declared.refusal.Refusal.{Refusal}
use Rattle.bus.specs.declared.refusal.Refusal.TheVariants.{
  RowAbove31,
  RowUsed,
  RowEmpty,
  OutOfRange,
  AboveWindow,
  RoundTooLong,
  Late,
  Unsettled,
  PlanLength,
  OffsetTooHigh,
  TooManyDataBytes,
  FrameTooLong,
  BadSign,
  BadItem,
  BadNumber,
  BufferTooShort,
}
use Rattle.session.specs.declared.answer.Answer.{Answer}
use Rattle.session.specs.declared.answer.Answer.TheVariants.{Made, Units, Label, Send, Refused}

abbrev located : List ℕ → ℕ → ℕ → List ℕ
located fault line place = fault ++ (decimal line ++ (codes ") (place " ++ (decimal place ++ codes "))")))

abbrev declined : Refusal → List ℕ
declined refusal = codes "(declined " ++ (decimal (told refusal).number ++ codes ")")

abbrev pub with_field : ℕ → List ℕ
with_field n = codes "(declined 4 (field " ++ (decimal n ++ codes "))")

-- a fault of the text with its line and place, any other refusal with the values that the crew needs
abbrev pub refused : ℕ → Refusal → List ℕ
refused line (BadSign place) = located (codes "(fault 13 (line ") line place
refused line (BadItem place) = located (codes "(fault 14 (line ") line place
refused line (BadNumber place) = located (codes "(fault 15 (line ") line place
refused line (OutOfRange field) = with_field (field_number field)
refused line (AboveWindow row) = codes "(declined 5 (row " ++ (decimal row ++ codes "))")
refused line (Late row cycle) = codes "(declined 7 (row " ++ (decimal row ++ (codes ") (cycle " ++ (decimal cycle ++ codes "))")))
refused line RowAbove31 = declined RowAbove31
refused line RowUsed = declined RowUsed
refused line RowEmpty = declined RowEmpty
refused line RoundTooLong = declined RoundTooLong
refused line Unsettled = declined Unsettled
refused line PlanLength = declined PlanLength
refused line OffsetTooHigh = declined OffsetTooHigh
refused line TooManyDataBytes = declined TooManyDataBytes
refused line FrameTooLong = declined FrameTooLong
refused line (BufferTooShort needed) = declined (BufferTooShort needed)

-- 0 to 9, then a to f
abbrev pub hex_digit : ℕ → ℕ
hex_digit n = cond (nat_lt n 10) (48 + n) (97 + (n - 10))

abbrev pub hex_byte : ℕ → List ℕ
hex_byte b = hex_digit (b / 16) ∷ hex_digit (b % 16) ∷ []

-- a trigger's four bytes
abbrev pub hex_bytes : List ℕ → List ℕ
hex_bytes [] = []
hex_bytes (b ∷ []) = hex_byte b
hex_bytes (b ∷ c ∷ bs) = hex_byte b ++ (codes " " ++ hex_bytes (c ∷ bs))

-- a trigger
abbrev pub sent : (word : ℕ) → List ℕ
sent w = codes "(send " ++ (hex_bytes (trigger_bytes w) ++ codes ")")

abbrev pub printed : Answer → List ℕ
printed Made = codes "(ok)"
printed (Label n) = codes "(label " ++ (decimal n ++ codes ")")
printed (Send rows) = codes "(send " ++ (hex_bytes (trigger_bytes rows.word) ++ codes ")")
printed (Units n) = codes "(units " ++ (decimal n ++ codes ")")
printed (Refused f) = refused f.line f.refusal

-- a line with its end
abbrev pub ended : List ℕ → List ℕ
ended text = text ++ 10 ∷ []

-- numbers, each behind its words, and the last words
abbrev pub worded : List (Bor (List ℕ) × ℕ) → List ℕ → List ℕ
worded [] end = end
worded (p ∷ ps) end = p.0.now ++ (decimal p.1 ++ worded ps end)

-- all the words of such a text
abbrev pub words : List (Bor (List ℕ) × ℕ) → List ℕ → List ℕ
words [] end = end
words (p ∷ ps) end = p.0.now ++ words ps end

-- numbers of 64 bits
abbrev pub AreFit : List (Bor (List ℕ) × ℕ) → Type 0
AreFit [] = Unit {0}
AreFit (p ∷ ps) = (p.1 < 2 ^ 64) × AreFit ps

-- up to three of them and few words of plain letters
abbrev pub IsShort : List (Bor (List ℕ) × ℕ) → List ℕ → Type 0
IsShort ps end = AreFit ps × (length ps ≤ 3) × (length (words ps end) ≤ 64) × IsTrue (list_all is_ascii (words ps end))

-- the text is this, and is short and has plain letters alone
pub record Says (text this : List ℕ) : Type 0 where
  pub value : text ≡ this
  pub short : length text < 128
  pub ascii : IsAscii text
