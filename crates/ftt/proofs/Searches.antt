-- What the searches over the rows find. Assumes nothing.
use Rattle.std.proofs.Common.{◌≡◌, ℕ, ◌<◌, Bool, true, false, List, length, Some, None, Option, Decides, get_or, refl, sym, ap₂, ◌∙◌, subst, arith, min}
use Rattle.std.proofs.lemmas.Bool.{false≢true}
use Rattle.std.specs.Option.{MatchOption}
use Rattle.std.specs.Bool.{MatchBool}
use Rattle.std.specs.List.{AllWithin, HoldsAt, zip}
use Rattle.std.proofs.lemmas.Slice.Zip.{get_or-zip, length-zip}
use Rattle.engine.specs.declared.row.Row.{Row}
use Rattle.engine.specs.Cycle.{lowest}
use Rattle.engine.specs.Held.{slots}
use Rattle.engine.proofs.Tests.{lowest_found, lowest_nowhere}

-- the first slot of 32 that passes a test is the lowest row
pub lowest_is_first : (test : Option Row → Bool) (rows : List (Option Row)) → length rows ≡ 32 → (r : Option ℕ)
    → MatchOption r (AllWithin (λ s. test s ≡ false) rows 0 (length rows)) (λ i. (i < length rows) × HoldsAt (λ s. test s ≡ true) rows i × AllWithin (λ s. test s ≡ false) rows 0 i)
    → r ≡ lowest 32 (λ k. test (slots rows k))
lowest_is_first test rows len None none = sym (lowest_nowhere 32 _ (λ k h. none k None (omega arith) (omega (arith, len))))
lowest_is_first test rows len (Some i) found =
    sym (lowest_found 32 i _ (lowest_nowhere i _ (λ k h. found.2 k None (omega arith) h)) (found.1 None) (omega (arith, len, found.0)))

-- all 32 pairs of slots agree, or one pair doesn't
pub all_slots_agree : {X : Type 0} (figures : Option Row → X) (a b : List (Option Row)) → length a ≡ 32 → length b ≡ 32 → (r : Bool)
    → MatchBool r (AllWithin (λ p. figures p.0 ≡ figures p.1) (zip a b) 0 (length (zip a b))) ((k : ℕ) × (k < length (zip a b)) × HoldsAt (λ p. figures p.0 ≡ figures p.1 → ⊥) (zip a b) k)
    → Decides r ((k : ℕ) → k < 32 → figures (slots a k) ≡ figures (slots b k))
all_slots_agree figures a b la lb r found = decided r found
  where
    len : length (zip a b) ≡ 32
    len = length-zip a b ∙ ap₂ min la lb

    at : (k : ℕ) → k < 32 → get_or (zip a b) k (None, None) ≡ (slots a k, slots b k)
    at k h = get_or-zip a b k (None, None) (omega (arith, la)) (omega (arith, lb))

    decided : (r : Bool) → MatchBool r (AllWithin (λ p. figures p.0 ≡ figures p.1) (zip a b) 0 (length (zip a b))) ((k : ℕ) × (k < length (zip a b)) × HoldsAt (λ p. figures p.0 ≡ figures p.1 → ⊥) (zip a b) k) → Decides r ((k : ℕ) → k < 32 → figures (slots a k) ≡ figures (slots b k))
    decided true agree = (λ e k h. subst (λ p. figures p.0 ≡ figures p.1) (at k h) (agree k (None, None) (omega arith) (omega (arith, len))), λ same. refl)
    decided false apart = (λ e. absurd (false≢true e), λ same. absurd (subst (λ p. figures p.0 ≡ figures p.1 → ⊥) (at apart.0 (omega (arith, len, apart.1))) (apart.2 (None, None)) (same apart.0 (omega (arith, len, apart.1)))))
