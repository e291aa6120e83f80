-- The forms: the word of each, and the items that follow it. Assumes nothing.
use Rattle.std.specs.Prelude.{ℕ, Bool, true, false, cond, ◌&&◌, List, [], ◌∷◌, is_some, Some, None, codes, Option, nat_le}
use Rattle.std.specs.Option.{unwrap_or}
use Rattle.orders.specs.declared.selector.Selector.{Selector}
use Rattle.orders.specs.declared.selector.Selector.TheVariants.{RateMonotonic, DeadlineMonotonic, FixedPriority, EarliestDeadline}
use Rattle.engine.specs.declared.row.Figures.{Figures}
use Rattle.lines.specs.declared.form.Form.{Form}
use Rattle.lines.specs.declared.form.Form.TheVariants as form
use Rattle.lines.specs.declared.word.Word.{Word}
use Rattle.lines.specs.declared.word.Word.TheVariants.{Window, Policy, Drop, Next, Which, Frame, Add, Alter}
use Rattle.lines.specs.declared.word.Kind.{Kind}
use Rattle.lines.specs.declared.word.Kind.TheVariants as kind
use Rattle.lines.specs.Names.{named}
use Rattle.lines.specs.Numbers.{value, in_range}
use Rattle.lines.specs.Parts.{Placed, placed}

abbrev pub word_text : Word → List ℕ
word_text Window = codes "window"
word_text Policy = codes "policy"
word_text Drop = codes "drop"
word_text Next = codes "next"
word_text Which = codes "which"
word_text Frame = codes "frame"
word_text Add = codes "add"
word_text Alter = codes "alter"

abbrev pub policy_text : Selector → List ℕ
policy_text RateMonotonic = codes "rm"
policy_text DeadlineMonotonic = codes "dm"
policy_text FixedPriority = codes "pr"
policy_text EarliestDeadline = codes "edf"

abbrev pub words : List Word
words = Window ∷ Policy ∷ Drop ∷ Next ∷ Which ∷ Frame ∷ Add ∷ Alter ∷ []

abbrev pub policies : List Selector
policies = RateMonotonic ∷ DeadlineMonotonic ∷ FixedPriority ∷ EarliestDeadline ∷ []

abbrev pub word_named : List ℕ → Option Word
word_named t = named word_text t words

abbrev pub policy_named : List ℕ → Option Selector
policy_named t = named policy_text t policies

-- the five figures of a message
abbrev pub figure_kinds : List Kind
figure_kinds = kind.Byte ∷ kind.Byte ∷ kind.Byte ∷ kind.Byte ∷ kind.Byte ∷ []

-- the items that follow each word
abbrev pub kinds : Word → List Kind
kinds Window = kind.Byte ∷ []
kinds Policy = kind.PolicyName ∷ []
kinds Drop = kind.Byte ∷ []
kinds Next = kind.Byte ∷ []
kinds Which = []
kinds Frame = kind.HalfWord ∷ kind.Byte ∷ []
kinds Add = kind.Byte ∷ figure_kinds
kinds Alter = kind.Byte ∷ figure_kinds

-- a part that begins with a digit is a number
abbrev pub is_number : List ℕ → Bool
is_number [] = false
is_number (b ∷ bs) = nat_le 48 b && nat_le b 57

-- whether an item is of a kind
abbrev pub takes : Kind → List ℕ → Bool
takes kind.Byte t = is_number t
takes kind.HalfWord t = is_number t
takes kind.PolicyName t = is_some (policy_named t)

-- the first item that is left, and those behind it
abbrev pub front : List Placed → Placed
front [] = placed 0 []
front (p ∷ ps) = p

abbrev pub behind : List Placed → List Placed
behind [] = []
behind (p ∷ ps) = ps

-- the first item that the form has not, or the end where one is lacking
abbrev pub misfit : ℕ → List Kind → List Placed → Option ℕ
misfit end [] [] = None
misfit end [] (p ∷ ps) = Some p.place
misfit end (k ∷ ks) [] = Some end
misfit end (k ∷ ks) (p ∷ ps) = cond (takes k p.text) (misfit end ks ps) (Some p.place)

-- whether a number has no needless zero and is small enough
abbrev pub sound : Kind → List ℕ → Bool
sound kind.Byte t = in_range 255 t
sound kind.HalfWord t = in_range 65535 t
sound kind.PolicyName t = true

-- the first number that is not
abbrev pub unsound : List Kind → List Placed → Option ℕ
unsound [] ps = None
unsound (k ∷ ks) ps = cond (sound k (front ps).text) (unsound ks (behind ps)) (Some (front ps).place)

abbrev pub number : List Placed → ℕ
number ps = value (front ps).text

abbrev pub policy : List Placed → Selector
policy ps = unwrap_or (policy_named (front ps).text) RateMonotonic

-- the figures of a message, from its duration to its priority
abbrev pub figures : List Placed → Figures
figures ps =
    let from_period = behind ps in
    let from_deadline = behind from_period in
    let from_phase = behind from_deadline in
    let from_priority = behind from_phase in
    record {
      duration = number ps;
      period = number from_period;
      deadline = number from_deadline;
      phase = number from_phase;
      priority = number from_priority;
    }

-- what a line with this word and these items says
abbrev pub said : Word → List Placed → Form
said Window ps = form.Window (number ps)
said Policy ps = form.Policy (policy ps)
said Drop ps = form.Drop (number ps)
said Next ps = form.Next (number ps)
said Which ps = form.Which
said Frame ps = form.Frame (number ps) (number (behind ps))
said Add ps = form.Add (number ps) (figures (behind ps))
said Alter ps = form.Alter (number ps) (figures (behind ps))
