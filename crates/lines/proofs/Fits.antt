-- How many items a form has. Assumes nothing.
use Rattle.std.proofs.lemmas.Option.{none-some}
use Rattle.std.proofs.Common.{Bool, Option, arith, ◌≡◌, ℕ, ◌<◌, ◌≤◌, true, false, cond, List, [], ◌∷◌, length, drop, Some, None, sym, ap, ◌∙◌}
use Rattle.std.proofs.lemmas.List.{at_drop_more}
use Rattle.lines.specs.declared.word.Kind.{Kind}
use Rattle.lines.specs.Parts.{Placed}
use Rattle.lines.specs.Forms.{takes, misfit}

pub lacks : (end : ℕ) (ks : List Kind) (i : ℕ) (d : Kind) (ps : List Placed) → i < length ks → ps ≡ [] → misfit end (drop i ks) ps ≡ Some end
lacks end ks i d ps lt none = ap (misfit end (drop i ks)) none ∙ at_drop_more (λ l. misfit end l []) ks i d lt

fits_on : (fit : Bool) (rest : Option ℕ) (place : ℕ) → cond fit rest (Some place) ≡ None → rest ≡ None
fits_on true rest place h = h
fits_on false rest place h = absurd (none-some place (sym h))

-- items that fit are as many as their kinds
pub enough : (end : ℕ) (ks : List Kind) (ps : List Placed) → misfit end ks ps ≡ None → length ks ≤ length ps
enough end [] ps fit = omega arith
enough end (k ∷ ks) [] fit = absurd (none-some end (sym fit))
enough end (k ∷ ks) (p ∷ ps) fit =
    omega (arith, enough end ks ps (fits_on (takes k p.text) (misfit end ks ps) p.place fit))
