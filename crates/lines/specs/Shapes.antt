-- The shape of a line: a bracket, a word, items that each follow one space, a bracket, and nothing more. Assumes nothing.
use Rattle.std.specs.Prelude.{ℕ, ◌+◌, Bool, true, false, cond, List, [], ◌∷◌, Some, None, Option}
use Rattle.lines.specs.declared.sign.Sign.{Sign}
use Rattle.lines.specs.declared.sign.Sign.TheVariants.{Letter, Digit, Space, Open, Close, Other}
use Rattle.lines.specs.declared.shape.Stage.{Stage}
use Rattle.lines.specs.declared.shape.Stage.TheVariants.{Opening, WordDue, InWord, ItemDue, InNumber, Closed}
use Rattle.lines.specs.Signs.{sign_of}

-- what each sign leads to
abbrev by : Sign → Option Stage → Option Stage → Option Stage → Option Stage → Option Stage → Option Stage
by Letter l d s o c = l
by Digit l d s o c = d
by Space l d s o c = s
by Open l d s o c = o
by Close l d s o c = c
by Other l d s o c = None

-- the stage after one more sign: a letter, a digit, a space, an opening or a closing bracket
abbrev pub step : Stage → Sign → Option Stage
step Opening s = by s None None None (Some WordDue) None
step WordDue s = by s (Some InWord) None None None None
step InWord s = by s (Some InWord) None (Some ItemDue) None (Some Closed)
step ItemDue s = by s (Some InWord) (Some InNumber) None None None
step InNumber s = by s None (Some InNumber) (Some ItemDue) None (Some Closed)
step Closed s = by s None None None None None

abbrev pub closed : Stage → Bool
closed Opening = false
closed WordDue = false
closed InWord = false
closed ItemDue = false
closed InNumber = false
closed Closed = true

-- the place of the first sign that cannot follow, or of the end where the line is not closed
abbrev pub misplaced : Stage → ℕ → List ℕ → Option ℕ
misplaced stage place [] = cond (closed stage) None (Some place)
misplaced stage place (b ∷ bs) =
    elim (step stage (sign_of b)) [ None ↦ Some place | Some next ↦ misplaced next (place + 1) bs ]
