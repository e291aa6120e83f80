-- A row's add form, written and read back. Assumes nothing.
use Rattle.std.proofs.Common.{◌≡◌, ℕ, ◌<◌, ◌≤◌, List, ◌++◌, length, take, drop, Ok, decimal, Result, sym, ap, ◌∙◌, arith, length-append}
use Rattle.std.proofs.lemmas.Fmt.{length-decimal-le}
use Rattle.std.proofs.lemmas.List.{take_at, drop_at}
use Rattle.std.proofs.lemmas.Bool.{cond-true, le-leb}
use Rattle.bus.specs.declared.refusal.Refusal.{Refusal}
use Rattle.engine.specs.declared.row.Figures.{Figures}
use Rattle.lines.specs.declared.form.Form.TheVariants.{Add}
use Rattle.lines.specs.Reading.{reading}
use Rattle.lines.specs.Spelling.{spell, FiguresFit}
use Rattle.lines.specs.Writing.{Writes}
use Rattle.lines.proofs.Returns.{spelling_read, spelled_back}

-- the add form of any row is short
pub add_short : (row : ℕ) (f : Figures) → row < 256 → FiguresFit f → length (spell (Add row f)) ≤ 128
add_short row f small (duration, period, deadline, phase, priority) =
    let short : (n : ℕ) → n < 256 → length (decimal n) ≤ 3 = λ n h. length-decimal-le 3 n (omega arith) (omega arith) (omega arith) in
    simp length-append (omega (arith, short row small, short f.duration duration, short f.period period, short f.deadline deadline, short f.phase phase, short f.priority priority))

ok_same : {X E : Type 0} (x y : X) → ◌≡◌ {A = Result X E} (Ok x) (Ok y) → x ≡ y
ok_same x y e = cc

module _ (row : ℕ) (f : Figures) (before after : List ℕ) where
  abbrev text : List ℕ
  text = spell (Add row f)

  -- a text that was put in front of the buffer
  pub writes : row < 256 → FiguresFit f → length text ≤ length before → after ≡ text ++ drop (length text) before → Writes (Ok f) row before after (Ok (length text))
  writes small fit room is =
      let fits = le-leb _ _ room in
      let front : (n : ℕ) → ◌≡◌ {A = Result ℕ Refusal} (Ok (length text)) (Ok n) → take n after ≡ text = λ n told.
      ap (λ l. take n l) is ∙ take_at text (drop (length text) before) n (ok_same _ _ told) in
      record {
        value = sym (cond-true _ _ _ fits);
        buffer = is ∙ sym (cond-true _ _ _ fits);
        reads_back = λ n g told same.
            ap reading (front n told) ∙ spelling_read (Add row f) (small, fit) ∙ ap (λ h. Ok (Add row h)) (ok_same f g same);
        only_so = λ n g line told same read.
            sym (spelled_back line (Add row g) read) ∙ ap (λ h. spell (Add row h)) (sym (ok_same f g same)) ∙ sym (front n told);
        beyond = λ n told.
            ap (λ l. drop n l) is ∙ drop_at text (drop (length text) before) n (ok_same _ _ told) ∙ ap (λ k. drop k before) (ok_same _ _ told);
        kept = λ e told. absurd (let z : ◌≡◌ {A = ℕ} 0 1 = cc in omega arith);
      }
