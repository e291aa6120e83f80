-- Every refusal's number, and the values that go with it. Assumes nothing.
use Rattle.std.specs.Prelude.{ℕ, List, [], ◌∷◌, Ok, Err, Result}
use Rattle.bus.specs.declared.refusal.Field.{Field}
use Rattle.bus.specs.declared.refusal.Field.TheVariants.{Duration, Period, Deadline, Window}
use Rattle.bus.specs.declared.refusal.Refusal.{Refusal}
use Rattle.bus.specs.declared.refusal.Refusal.TheVariants.{
  RowAbove31,
  RowUsed,
  RowEmpty,
  OutOfRange,
  AboveWindow,
  RoundTooLong,
  Late,
  Unsettled,
  PlanLength,
  OffsetTooHigh,
  TooManyDataBytes,
  FrameTooLong,
  BadSign,
  BadItem,
  BadNumber,
  BufferTooShort,
}

-- a refusal as it is told outside
pub record Told : Type 0 where
  pub number : ℕ
  pub values : List ℕ

abbrev pub field_number : Field → ℕ
field_number Duration = 1
field_number Period = 2
field_number Deadline = 3
field_number Window = 4

abbrev pub numbered : ℕ → List ℕ → Told
numbered n vs = record { number = n; values = vs }

abbrev pub told : Refusal → Told
told RowAbove31 = numbered 1 []
told RowUsed = numbered 2 []
told RowEmpty = numbered 3 []
told (OutOfRange field) = numbered 4 (field_number field ∷ [])
told (AboveWindow row) = numbered 5 (row ∷ [])
told RoundTooLong = numbered 6 []
told (Late row cycle) = numbered 7 (row ∷ cycle ∷ [])
told Unsettled = numbered 8 []
told PlanLength = numbered 9 []
told OffsetTooHigh = numbered 10 []
told TooManyDataBytes = numbered 11 []
told FrameTooLong = numbered 12 []
told (BadSign place) = numbered 13 (place ∷ [])
told (BadItem place) = numbered 14 (place ∷ [])
told (BadNumber place) = numbered 15 (place ∷ [])
told (BufferTooShort needed) = numbered 16 (needed ∷ [])

-- an answer, with its refusal as it is told
abbrev pub answered : {T : Type 0} → Result T Refusal → Result T Told
answered (Ok x) = Ok x
answered (Err e) = Err (told e)
