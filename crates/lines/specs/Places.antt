-- Where a well-shaped line is at fault, in the words of the lines. Assumes nothing.
use Rattle.std.specs.Prelude.{◌≡◌, ℕ, ◌+◌, ◌<◌, true, false, ◌⊎◌, List, [], ◌∷◌, ◌++◌, length, ◌≢◌}
use Rattle.lines.specs.declared.word.Kind.{Kind}
use Rattle.lines.specs.declared.word.Word.{Word}
use Rattle.lines.specs.Forms.{word_text, kinds, sound}
use Rattle.lines.specs.Grammar.{closing, line_of}
use Rattle.lines.specs.Spelling.{OfKind, OfKinds}

-- items, each after a space, and the space of the next
abbrev pub awaiting : List (List ℕ) → List ℕ
awaiting [] = 32 ∷ []
awaiting (t ∷ ts) = 32 ∷ (t ++ awaiting ts)

-- the line in front of the item that follows these
abbrev pub up_to : Word → List (List ℕ) → List ℕ
up_to word items = 40 ∷ (word_text word ++ awaiting items)

-- the item begins at the place, behind the word and these items
pub record ItemAt (line : List ℕ) (place : ℕ) (word : Word) (before : List (List ℕ)) (item : List ℕ) (rest : List (List ℕ)) : Type 0 where
  pub whole : line ≡ up_to word before ++ (item ++ closing rest)
  pub begins : place ≡ length (up_to word before)

-- no form has the line's word, which begins behind the bracket
pub record UnknownWord (line : List ℕ) (place : ℕ) : Type 0 where
  pub text : List ℕ
  pub items : List (List ℕ)
  pub whole : line ≡ line_of text items
  pub unknown : (word : Word) → text ≢ word_text word
  pub begins : place ≡ 1

-- the item is surplus, or not of the kind that is due first
abbrev pub NotDue : List Kind → List ℕ → Type 0
NotDue [] t = Unit {0}
NotDue (k ∷ ks) t = OfKind k t → ⊥

-- behind items of the form's first kinds one that the form has not there
pub record WrongItem (line : List ℕ) (place : ℕ) : Type 0 where
  pub word : Word
  pub good : List (List ℕ)
  pub item : List ℕ
  pub rest : List (List ℕ)
  pub met : List Kind
  pub due : List Kind
  pub split : kinds word ≡ met ++ due
  pub of_kinds : OfKinds met good
  pub not_due : NotDue due item
  pub at : ItemAt line place word good item rest

-- items of the form's first kinds, and too few: told at the last bracket
pub record TooFew (line : List ℕ) (place : ℕ) : Type 0 where
  pub word : Word
  pub items : List (List ℕ)
  pub met : List Kind
  pub due : List Kind
  pub split : kinds word ≡ met ++ due
  pub lacking : 0 < length due
  pub of_kinds : OfKinds met items
  pub whole : line ≡ line_of (word_text word) items
  pub last : place + 1 ≡ length line

abbrev pub BadItemAt : List ℕ → ℕ → Type 0
BadItemAt line place = UnknownWord line place ⊎ (WrongItem line place ⊎ TooFew line place)

-- the numbers among the items have no needless zero and are small enough for their kinds
abbrev pub Sounds : List Kind → List (List ℕ) → Type 0
Sounds [] [] = Unit {0}
Sounds [] (t ∷ ts) = ⊥
Sounds (k ∷ ks) [] = ⊥
Sounds (k ∷ ks) (t ∷ ts) = (sound k t ≡ true) × Sounds ks ts

-- the line fits a form, and this is its first number that is not so
pub record BadNumberAt (line : List ℕ) (place : ℕ) : Type 0 where
  pub word : Word
  pub good : List (List ℕ)
  pub number : List ℕ
  pub rest : List (List ℕ)
  pub met : List Kind
  pub kind : Kind
  pub due : List Kind
  pub split : kinds word ≡ met ++ kind ∷ due
  pub of_kinds : OfKinds (kinds word) (good ++ number ∷ rest)
  pub sounds : Sounds met good
  pub unsound : sound kind number ≡ false
  pub at : ItemAt line place word good number rest
