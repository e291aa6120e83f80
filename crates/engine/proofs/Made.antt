-- Arrays made at one go, from the calls of a closure. Assumes nothing.
use Rattle.std.proofs.Common.{◌≡◌, ℕ, zero, suc, ◌+◌, ◌<◌, ◌≤◌, List, get_or, sym, refl, ap, ◌∙◌, subst, inl, inr, arith}
use Rattle.std.proofs.lemmas.Bool.{cases_eq}
use Rattle.std.specs.Array.{IsFromFnResult, IsFromFnResultFrom}
use Rattle.std.specs.Fn.{Called}
use denote.Param.Members.{Mut}

module _ {F B : Type 0} (g : Mut F (ℕ × Unit {0}) B) (h : ℕ → B) (f : F) (ys : List B)
    (each : (i : ℕ) (r : B) (q : F) → Called g f (i, tt) r q → (r ≡ h i) × (q ≡ f)) where
  made_from : (n i : ℕ) (p : F) → p ≡ f → IsFromFnResultFrom g p ys i n → (k : ℕ) (d : B) → i ≤ k → k < i + n → get_or ys k d ≡ h k
  made_from zero i p same is k d low high = absurd (omega arith)
  made_from (suc n) i p same (q, y, here, call, rest) k d low high =
      let now = each i y q (subst (λ s. Called g s (i, tt) y q) same call) in
      elim (cases_eq k i) [
        | inl at ↦ ap (λ j. get_or ys j d) at ∙ here.1 d ∙ now.0 ∙ ap h (sym at)
        | inr other ↦ made_from n (i + 1) q now.1 rest k d (omega arith) (omega arith)
      ]

  -- where each call gives h of its number and changes nothing that it holds, the array has h of each place
  pub made_at : (n : ℕ) → IsFromFnResult g f ys n → (k : ℕ) (d : B) → k < n → get_or ys k d ≡ h k
  made_at n is k d within = made_from n 0 f refl is.each k d (omega arith) (omega arith)
