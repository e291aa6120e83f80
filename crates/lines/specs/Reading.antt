-- What a line says, or its first fault: its shape, then its items, then its numbers. Assumes nothing.
use Rattle.std.specs.Prelude.{◌≡◌, ℕ, ◌-◌, true, false, List, length, drop, Some, None, Ok, Err, Option, Result, MatchResult}
use Rattle.bus.specs.declared.refusal.Refusal.{Refusal}
use Rattle.bus.specs.declared.refusal.Refusal.TheVariants.{BadSign, BadItem, BadNumber}
use Rattle.bus.specs.Refusals.{Told, told}
use Rattle.engine.specs.declared.row.Figures.{Figures}
use Rattle.lines.specs.declared.form.Form.{Form}
use Rattle.lines.specs.declared.shape.Stage.TheVariants.{Opening}
use Rattle.lines.specs.declared.word.Word.{Word}
use Rattle.lines.specs.Shapes.{misplaced}
use Rattle.lines.specs.Parts.{Placed, parts}
use Rattle.lines.specs.Numbers.{in_range}
use Rattle.lines.specs.Forms.{word_named, kinds, figure_kinds, figures, front, behind, misfit, unsound, number, said}

abbrev pub bad_sign : ℕ → Told
bad_sign place = told (BadSign place)

abbrev pub bad_item : ℕ → Told
bad_item place = told (BadItem place)

abbrev pub bad_number : ℕ → Told
bad_number place = told (BadNumber place)

-- a place that was found is a fault, else the answer stands
abbrev pub unless : {T : Type 0} → (ℕ → Told) → Option ℕ → Result T Told → Result T Told
unless fault None answer = answer
unless fault (Some place) answer = Err (fault place)

abbrev pub word_read : List Placed → Result Word Told
word_read ps = elim (word_named (front ps).text) [ Some word ↦ Ok word | None ↦ Err (bad_item 1) ]

abbrev pub items_read : Word → List Placed → Result Form Told
items_read word ps = unless bad_number (unsound (kinds word) ps) (Ok (said word ps))

-- what the parts of a line say, the last of whose signs stands at `end`
abbrev pub parts_read : ℕ → List Placed → Result Form Told
parts_read end ps = elim (word_read ps) [
  | Ok word ↦ unless bad_item (misfit end (kinds word) (behind ps)) (items_read word (behind ps))
  | Err fault ↦ Err fault
]

abbrev pub reading : List ℕ → Result Form Told
reading line = unless bad_sign (misplaced Opening 0 line) (parts_read (length line - 1) (parts 1 (drop 1 line)))

-- the next item as a number
abbrev pub Numbered : ℕ → List Placed → Result ℕ Refusal → Type 0
Numbered most ps r =
    MatchResult r
    (λ n. (in_range most (front ps).text ≡ true) × (n ≡ number ps))
    (λ e. (in_range most (front ps).text ≡ false) × (e ≡ BadNumber (front ps).place))

-- the next five items as figures
abbrev pub Figured : List Placed → Result Figures Refusal → Type 0
Figured ps r =
    MatchResult r
    (λ f. (unsound figure_kinds ps ≡ None) × (f ≡ figures ps))
    (λ e. (place : ℕ) × (unsound figure_kinds ps ≡ Some place) × (e ≡ BadNumber place))
