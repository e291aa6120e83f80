-- The lowest late row, one row on. Assumes nothing.
use Rattle.std.proofs.Common.{◌≡◌, ℕ, ◌+◌, Bool, true, false, cond, Some, None, Option, sym, refl, ap, ◌∙◌, add-one}
use Rattle.std.specs.Option.{option_or}
use Rattle.std.specs.Bool.{then_some}
use Rattle.engine.specs.Cycle.{first_of, lowest}

module _ (test : ℕ → Bool) where
  pub lowest_none : lowest 0 test ≡ None
  unfolding lowest
  lowest_none = refl

  lowest_more : (n : ℕ) → lowest (n + 1) test ≡ first_of (lowest n test) (cond (test n) (Some n) None)
  unfolding lowest
  lowest_more n = ap (λ m. lowest m test) (add-one n)

  else_none : (o : Option ℕ) → first_of o None ≡ o
  else_none None = refl
  else_none (Some x) = refl

  pub lowest_stay : (n : ℕ) → test n ≡ false → lowest (n + 1) test ≡ lowest n test
  lowest_stay n is = lowest_more n ∙ ap (λ b. first_of (lowest n test) (cond b (Some n) None)) is ∙ else_none (lowest n test)

  or_is : (o : Option ℕ) (n : ℕ) (b : Bool) → option_or o (then_some b n) ≡ first_of o (cond b (Some n) None)
  or_is None n true = refl
  or_is None n false = refl
  or_is (Some x) n b = refl

  pub lowest_or : (n : ℕ) (b : Bool) → b ≡ test n → option_or (lowest n test) (then_some b n) ≡ lowest (n + 1) test
  lowest_or n b is = or_is (lowest n test) n b ∙ ap (λ v. first_of (lowest n test) (cond v (Some n) None)) is ∙ sym (lowest_more n)
