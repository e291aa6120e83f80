-- A pass over the rows that changes the used ones in place. Assumes nothing.
use Rattle.std.proofs.Common.{◌≡◌, ℕ, ◌+◌, ◌<◌, ◌≤◌, ◌≢◌, List, length, set, Some, None, Option, sym, refl, ap, ◌∙◌, inl, inr, arith, below_more}
use mathlib.Core.Path.{fun_ext}
use Rattle.std.specs.Option.{option_map}
use Rattle.std.proofs.lemmas.List.{length-set, get_or-set_same, get_or-set_other, get_or_past}
use Rattle.std.proofs.lemmas.Bool.{cases_lt}
use Rattle.engine.specs.declared.row.Row.{Row}
use Rattle.engine.specs.Held.{slots}

-- the used rows below n are changed, and the others stay
pub record ChangedBelow (n : ℕ) (change : ℕ → Row → Row) (old new : List (Option Row)) : Type 0 where
  pub long : length new ≡ length old
  pub first : (r : ℕ) → r < n → slots new r ≡ option_map (change r) (slots old r)
  pub rest : (r : ℕ) → n ≤ r → slots new r ≡ slots old r

pub changed_none : (change : ℕ → Row → Row) (rows : List (Option Row)) → ChangedBelow 0 change rows rows
changed_none change rows = record { long = refl; first = λ r h. absurd (omega arith); rest = λ r h. refl }

module _ (change : ℕ → Row → Row) (old rows : List (Option Row)) (r : ℕ) (so_far : ChangedBelow r change old rows) where
  -- what the pass reads at r is as it was
  pub unchanged_yet : slots rows r ≡ slots old r
  unchanged_yet = so_far.rest r (omega arith)

  pub changed_empty : slots rows r ≡ None → ChangedBelow (r + 1) change old rows
  changed_empty empty =
      record {
        long = so_far.long;
        first = below_more _ r so_far.first (empty ∙ ap (option_map (change r)) (sym empty ∙ unchanged_yet));
        rest = λ k h. so_far.rest k (omega arith);
      }

  pub changed_used : (row new : Row) → r < length old → slots rows r ≡ Some row → new ≡ change r row → ChangedBelow (r + 1) change old (set rows r (Some new))
  changed_used row new within used is =
      record {
        long = length-set rows r (Some new) ∙ so_far.long;
        first =
            below_more _ r
            (λ k h. let ne : k ≢ r = omega arith in get_or-set_other rows r k (Some new) None ne ∙ so_far.first k h)
            (get_or-set_same rows r (Some new) None (omega (arith, so_far.long)) ∙ ap Some is ∙ ap (option_map (change r)) (sym used ∙ unchanged_yet));
        rest = λ k h. let ne : k ≢ r = omega arith in get_or-set_other rows r k (Some new) None ne ∙ so_far.rest k (omega arith);
      }

-- at the end of the rows all are changed
pub changed_all : (change : ℕ → Row → Row) (old new : List (Option Row)) (n : ℕ) → length old ≤ n → ChangedBelow n change old new → slots new ≡ λ r. option_map (change r) (slots old r)
changed_all change old new n end all =
    fun_ext λ r.
    elim (cases_lt r n) [
      | inl in_rows ↦ all.first r in_rows
      | inr past ↦ let empty : slots old r ≡ None = get_or_past old r None (omega arith) in all.rest r past ∙ empty ∙ ap (option_map (change r)) (sym empty)
    ]
