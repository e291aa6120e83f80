-- What `array::from_fn` makes by a closure that answers by the index alone. Assumes nothing.
use Rattle.std.proofs.Common.{◌≡◌, ℕ, zero, suc, ◌+◌, ◌<◌, List, get_or, ap, ◌∙◌, subst, sym, arith}
use denote.Param.Members.{Mut, Called}
use Rattle.std.specs.Array.{IsFromFnResult, IsFromFnResultFrom}

module _ {F B : Type 0} (g : Mut F (ℕ × Unit {0}) B) (f : F) (h : ℕ → B) (calls : (k : ℕ) (y : B) (q : F) → Called g f (k, tt) y q → (q ≡ f) × (y ≡ h k)) where
  made_from : (ys : List B) (i n k : ℕ) (d : B) → IsFromFnResultFrom g f ys i n → k < n → get_or ys (i + k) d ≡ h (i + k)
  made_from ys i zero k d made below = absurd (omega arith)
  made_from ys i (suc n) zero d (q, y, at, call, rest) below =
      let here : i + 0 ≡ i = omega arith in
      ap (λ j. get_or ys j d) here ∙ at.1 d ∙ (calls i y q call).1 ∙ ap h (sym here)
  made_from ys i (suc n) (suc k) d (q, y, at, call, rest) below =
      let on : i + suc k ≡ i + 1 + k = omega arith in
      ap (λ j. get_or ys j d) on ∙ made_from ys (i + 1) n k d (subst (λ p. IsFromFnResultFrom g p ys (i + 1) n) (calls i y q call).0 rest) (omega arith) ∙ ap h (sym on)

  pub made_is : (ys : List B) (n : ℕ) → IsFromFnResult g f ys n → (k : ℕ) (d : B) → k < n → get_or ys k d ≡ h k
  made_is ys n made k d below =
      let same : 0 + k ≡ k = omega arith in
      ap (λ j. get_or ys j d) (sym same) ∙ made_from ys 0 n k d made.each below ∙ ap h same
