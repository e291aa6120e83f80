-- How each form is written, and which lines fit a form. Assumes nothing.
use Rattle.std.specs.Prelude.{◌≡◌, ℕ, ◌<◌, List, [], ◌∷◌, decimal}
use Rattle.engine.specs.declared.row.Figures.{Figures}
use Rattle.lines.specs.declared.form.Form.{Form}
use Rattle.lines.specs.declared.form.Form.TheVariants.{Window, Policy, Drop, Next, Which, Frame, Add, Alter}
use Rattle.orders.specs.declared.selector.Selector.{Selector}
use Rattle.lines.specs.declared.word.Kind.{Kind}
use Rattle.lines.specs.declared.word.Kind.TheVariants as kind
use Rattle.lines.specs.declared.word.Word.{Word}
use Rattle.lines.specs.declared.word.Word.TheVariants as word
use Rattle.lines.specs.Forms.{word_text, policy_text, kinds}
use Rattle.lines.specs.Grammar.{IsNumber, line_of}

abbrev pub word_of : Form → Word
word_of (Window n) = word.Window
word_of (Policy p) = word.Policy
word_of (Drop n) = word.Drop
word_of (Next n) = word.Next
word_of Which = word.Which
word_of (Frame c d) = word.Frame
word_of (Add row f) = word.Add
word_of (Alter row f) = word.Alter

abbrev pub figure_texts : Figures → List (List ℕ)
figure_texts f =
    decimal f.duration ∷ decimal f.period ∷ decimal f.deadline ∷ decimal f.phase ∷ decimal f.priority ∷ []

-- numbers are written without needless zeros
abbrev pub item_texts : Form → List (List ℕ)
item_texts (Window n) = decimal n ∷ []
item_texts (Policy p) = policy_text p ∷ []
item_texts (Drop n) = decimal n ∷ []
item_texts (Next n) = decimal n ∷ []
item_texts Which = []
item_texts (Frame c d) = decimal c ∷ decimal d ∷ []
item_texts (Add row f) = decimal row ∷ figure_texts f
item_texts (Alter row f) = decimal row ∷ figure_texts f

abbrev pub spell : Form → List ℕ
spell f = line_of (word_text (word_of f)) (item_texts f)

abbrev pub FiguresFit : Figures → Type 0
FiguresFit f = (f.duration < 256) × (f.period < 256) × (f.deadline < 256) × (f.phase < 256) × (f.priority < 256)

-- the numbers that a form can hold
abbrev pub InRange : Form → Type 0
InRange (Window n) = n < 256
InRange (Policy p) = Unit {0}
InRange (Drop n) = n < 256
InRange (Next n) = n < 256
InRange Which = Unit {0}
InRange (Frame c d) = (c < 65536) × (d < 256)
InRange (Add row f) = (row < 256) × FiguresFit f
InRange (Alter row f) = (row < 256) × FiguresFit f

-- an item of each kind: any number, or the name of a policy
abbrev pub OfKind : Kind → List ℕ → Type 0
OfKind kind.Byte t = IsNumber t
OfKind kind.HalfWord t = IsNumber t
OfKind kind.PolicyName t = (p : Selector) × (t ≡ policy_text p)

abbrev pub OfKinds : List Kind → List (List ℕ) → Type 0
OfKinds [] [] = Unit {0}
OfKinds [] (t ∷ ts) = ⊥
OfKinds (k ∷ ks) [] = ⊥
OfKinds (k ∷ ks) (t ∷ ts) = OfKind k t × OfKinds ks ts

-- a form's word and items of its kinds, whatever the numbers are
pub record FitsForm (line : List ℕ) : Type 0 where
  pub word : Word
  pub items : List (List ℕ)
  pub of_kinds : OfKinds (kinds word) items
  pub whole : line ≡ line_of (word_text word) items
