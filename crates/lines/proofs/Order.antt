-- The faults of a line, in their order. Assumes nothing.
use Rattle.std.proofs.Common.{◌≡◌, ℕ, ◌-◌, List, length, drop, Some, None, Ok, Err, Option, Result, refl, ap, arith}
use Rattle.bus.specs.Refusals.{Told}
use Rattle.lines.specs.declared.form.Form.{Form}
use Rattle.lines.specs.declared.shape.Stage.TheVariants.{Opening}
use Rattle.lines.specs.declared.word.Word.{Word}
use Rattle.lines.specs.Shapes.{misplaced}
use Rattle.lines.specs.Parts.{Placed, parts}
use Rattle.lines.specs.Forms.{word_named, kinds, front, behind, misfit}
use Rattle.lines.specs.Reading.{unless, bad_sign, bad_item, word_read, items_read, parts_read, reading}

-- no fault was found
pub none_found : {T : Type 0} (fault : ℕ → Told) (o : Option ℕ) (x : T) → Ok x ≡ unless fault o (Ok x) → o ≡ None
none_found fault None x e = refl
none_found fault (Some place) x e = absurd (let z : ◌≡◌ {A = ℕ} 0 1 = cc in omega arith)

-- a fault that was found does not hang on the answer
pub fault_found : {T U : Type 0} (fault : ℕ → Told) (o : Option ℕ) (x : T) (y : Result U Told) (t : Told) → Err t ≡ unless fault o (Ok x) → Err t ≡ unless fault o y
fault_found fault None x y t e = absurd (let z : ◌≡◌ {A = ℕ} 0 1 = cc in omega arith)
fault_found {T} fault (Some place) x y t e = let s : t ≡ fault place = cc in ap (λ u. Err u) s

-- an answer stands only where no fault was found
pub answer_stands : {T : Type 0} (fault : ℕ → Told) (o : Option ℕ) (a : Result T Told) (x : T) → unless fault o a ≡ Ok x → (o ≡ None) × (a ≡ Ok x)
answer_stands fault None a x e = (refl, e)
answer_stands fault (Some place) a x e = absurd (let z : ◌≡◌ {A = ℕ} 0 1 = cc in omega arith)

-- parts with a known word, or with none
module _ (ps : List Placed) where
  abbrev told_word : Option Word → Result Word Told
  told_word o = elim o [ Some word ↦ Ok word | None ↦ Err (bad_item 1) ]

  pub word_known : (word : Word) → word_named (front ps).text ≡ Some word → word_read ps ≡ Ok word
  word_known word found = ap told_word found

  pub word_unknown : word_named (front ps).text ≡ None → word_read ps ≡ Err (bad_item 1)
  word_unknown found = ap told_word found

  module _ (end : ℕ) where
    abbrev told_items : Result Word Told → Result Form Told
    told_items r = elim r [
      | Ok word ↦ unless bad_item (misfit end (kinds word) (behind ps)) (items_read word (behind ps))
      | Err fault ↦ Err fault
    ]

    pub parts_known : (word : Word) → word_read ps ≡ Ok word → parts_read end ps ≡ unless bad_item (misfit end (kinds word) (behind ps)) (items_read word (behind ps))
    parts_known word found = ap told_items found

    pub parts_unknown : (fault : Told) → word_read ps ≡ Err fault → parts_read end ps ≡ Err fault
    parts_unknown fault found = ap told_items found

-- a line with a good shape is read by its parts
pub by_parts : (line : List ℕ) → misplaced Opening 0 line ≡ None → reading line ≡ parts_read (length line - 1) (parts 1 (drop 1 line))
by_parts line shape = ap (λ o. unless bad_sign o (parts_read (length line - 1) (parts 1 (drop 1 line)))) shape
