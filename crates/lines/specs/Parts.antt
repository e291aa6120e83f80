-- The words and numbers of a line, with the places where they begin. Assumes nothing.
use Rattle.std.specs.Prelude.{◌≡◌, ℕ, ◌+◌, ◌-◌, cond, List, [], ◌∷◌, length, drop, Option, MatchOption}
use Rattle.lines.specs.declared.part.Part.{Part}
use Rattle.lines.specs.declared.part.Rest.{Rest}
use Rattle.lines.specs.Signs.{is_end}

pub record Placed : Type 0 where
  pub place : ℕ
  pub text : List ℕ

abbrev pub placed : ℕ → List ℕ → Placed
placed p t = record { place = p; text = t }

-- one more byte in front of the first part
abbrev pub longer : ℕ → ℕ → List Placed → List Placed
longer p b [] = []
longer p b (x ∷ xs) = placed p (b ∷ x.text) ∷ xs

-- the parts of what stands from place p on, each of which a space or the closing bracket ends
abbrev pub parts : ℕ → List ℕ → List Placed
parts p [] = []
parts p (b ∷ bs) = cond (is_end b) (placed p [] ∷ parts (p + 1) bs) (longer p b (parts (p + 1) bs))

-- a part as the code has it
abbrev pub seen : Part → Placed
seen part = placed part.place part.text.now

-- the parts that are left
abbrev pub left : Rest → List Placed
left rest = parts rest.at (drop rest.at rest.line.now)

-- where the line's last sign stands
abbrev pub last_place : Rest → ℕ
last_place rest = length rest.line.now - 1

-- the next part was taken, and no part where none is left
abbrev pub Takes : Rest → Option Part → Rest → Type 0
Takes before result after =
    MatchOption result ((left before ≡ []) × (left after ≡ [])) (λ p. left before ≡ seen p ∷ left after)
    × (after.line ≡ before.line)
