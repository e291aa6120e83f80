-- What holds of every reading of a line, in the words of the lines themselves. Assumes nothing.
use Rattle.std.specs.Prelude.{◌≡◌, ℕ, List, Ok, Err, Result, ◌≢◌}
use Rattle.bus.specs.declared.refusal.Refusal.{Refusal}
use Rattle.bus.specs.declared.refusal.Refusal.TheVariants.{BadSign, BadItem, BadNumber}
use Rattle.bus.specs.Refusals.{answered}
use Rattle.lines.specs.declared.form.Form.{Form}
use Rattle.lines.specs.Grammar.{WellShaped, FirstBad}
use Rattle.lines.specs.Reading.{reading}
use Rattle.lines.specs.Spelling.{spell, InRange, FitsForm}
use Rattle.lines.specs.Places.{BadItemAt, BadNumberAt}

pub record Reads (line : List ℕ) (r : Result Form Refusal) : Type 0 where
  -- the answer is that of the definition
  pub value : answered r ≡ reading line
  -- a bad sign is the first that cannot continue a form
  pub bad_sign : (place : ℕ) → r ≡ Err (BadSign place) → FirstBad line place
  -- any other answer is to a well-shaped line
  pub shaped : ((place : ℕ) → r ≢ Err (BadSign place)) → WellShaped line
  -- a bad item is told only of a line that fits no form, at the place where it stops to fit
  pub bad_item : (place : ℕ) → r ≡ Err (BadItem place) → FitsForm line → ⊥
  pub bad_item_at : (place : ℕ) → r ≡ Err (BadItem place) → BadItemAt line place
  -- and a bad number only of one that does, at its first such number
  pub bad_number : (place : ℕ) → r ≡ Err (BadNumber place) → FitsForm line
  pub bad_number_at : (place : ℕ) → r ≡ Err (BadNumber place) → BadNumberAt line place
  -- a line that is read is written as its form is
  pub spelled : (form : Form) → r ≡ Ok form → spell form ≡ line
  -- and a form is read from its spelling
  pub read_back : (form : Form) → InRange form → spell form ≡ line → r ≡ Ok form
