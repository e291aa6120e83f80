-- Lines in their own words: which are well shaped, and which sign is the first that cannot follow. Assumes nothing.
use Rattle.std.specs.Prelude.{◌≡◌, ℕ, ◌+◌, ◌<◌, ◌≤◌, ◌⊎◌, List, [], ◌∷◌, ◌++◌, length, take}
use Rattle.std.specs.List.{AllByRecursion}
use Rattle.lines.specs.declared.sign.Sign.{Sign}
use Rattle.lines.specs.declared.sign.Sign.TheVariants.{Letter, Digit}
use Rattle.lines.specs.Signs.{sign_of}

-- every byte is such a sign
abbrev pub Only : Sign → List ℕ → Type 0
Only s [] = Unit {0}
Only s (b ∷ bs) = (sign_of b ≡ s) × Only s bs

abbrev pub IsWord : List ℕ → Type 0
IsWord t = (0 < length t) × Only Letter t

abbrev pub IsNumber : List ℕ → Type 0
IsNumber t = (0 < length t) × Only Digit t

abbrev pub IsItem : List ℕ → Type 0
IsItem t = IsWord t ⊎ IsNumber t

-- items, each after a space, and the closing bracket
abbrev pub closing : List (List ℕ) → List ℕ
closing [] = 41 ∷ []
closing (t ∷ ts) = 32 ∷ (t ++ closing ts)

-- a whole line
abbrev pub line_of : List ℕ → List (List ℕ) → List ℕ
line_of word items = 40 ∷ (word ++ closing items)

-- an opening bracket, a word, items that each follow one space, a closing bracket, and nothing more
pub record WellShaped (line : List ℕ) : Type 0 where
  pub word : List ℕ
  pub items : List (List ℕ)
  pub is_word : IsWord word
  pub are_items : AllByRecursion IsItem items
  pub whole : line ≡ line_of word items

-- what stands before the place can be continued to a well-shaped line; one sign more, or the line itself, cannot
pub record FirstBad (line : List ℕ) (place : ℕ) : Type 0 where
  pub inside : place ≤ length line
  pub so_far : (more : List ℕ) × WellShaped (take place line ++ more)
  pub no_further : place < length line → (more : List ℕ) → WellShaped (take (place + 1) line ++ more) → ⊥
  pub not_whole : WellShaped line → ⊥
