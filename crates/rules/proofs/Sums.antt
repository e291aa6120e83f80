-- Sums over lists that are changed element by element. Assumes nothing.
use Rattle.std.proofs.Common.{◌≡◌, ℕ, zero, suc, ◌+◌, ◌*◌, ◌<◌, Bool, true, false, cond, List, [], ◌∷◌, map, sum_by, count_by, sym, refl, ap, ◌∙◌, ap₂, suc-mul, zero-mul, arith}
use Rattle.std.specs.List.{AllByRecursion}
use Rattle.std.proofs.lemmas.List.Folds.{fold-map, fold_stays}
use Rattle.std.proofs.lemmas.List.Sums.{sum_by-cons}
use Rattle.engine.specs.Rehearsal.{every}
use Rattle.std.proofs.lemmas.Bool.{and_from}

module _ {X : Type 0} where
  pub sum_like : (f g : X → ℕ) (xs : List X) → AllByRecursion (λ x. f x ≡ g x) xs → sum_by f xs ≡ sum_by g xs
  sum_like f g [] h = refl
  sum_like f g (x ∷ xs) h = sum_by-cons f x xs ∙ ap₂ ◌+◌ h.0 (sum_like f g xs h.1) ∙ sym (sum_by-cons g x xs)

  pub sum_map : (f : X → ℕ) (h : X → X) (xs : List X) → sum_by f (map h xs) ≡ sum_by (λ x. f (h x)) xs
  sum_map f h xs = fold-map (λ a x. a + f x) h 0 xs

  pub sum_zero : (xs : List X) → sum_by (λ x. 0) xs ≡ 0
  sum_zero xs = fold_stays (λ a x. a + 0) 0 (λ x. refl) xs

  pub sum_plus : (f g : X → ℕ) (xs : List X) → sum_by (λ x. f x + g x) xs ≡ sum_by f xs + sum_by g xs
  sum_plus f g [] = refl
  sum_plus f g (x ∷ xs) = omega (arith, sum_by-cons (λ y. f y + g y) x xs, sum_by-cons f x xs, sum_by-cons g x xs, sum_plus f g xs)

  pub all_each : (P : X → Type 0) → ((x : X) → P x) → (xs : List X) → AllByRecursion P xs
  all_each P h [] = tt
  all_each P h (x ∷ xs) = (h x, all_each P h xs)

  -- each that passes adds the same
  pub sum_same : (p : X → Bool) (f : X → ℕ) (u : ℕ) (xs : List X) → AllByRecursion (λ x. p x ≡ true → f x ≡ u) xs → sum_by (λ x. cond (p x) (f x) 0) xs ≡ count_by p xs * u
  sum_same p f u [] h = sym (zero-mul u)
  sum_same p f u (x ∷ xs) h = go (p x) refl h.0 (sum_same p f u xs h.1)
    where
      go : (b : Bool) → p x ≡ b → (p x ≡ true → f x ≡ u) → sum_by (λ y. cond (p y) (f y) 0) xs ≡ count_by p xs * u → sum_by (λ y. cond (p y) (f y) 0) (x ∷ xs) ≡ count_by p (x ∷ xs) * u
      go true is same before =
          let one : count_by p (x ∷ xs) ≡ suc (count_by p xs) = sum_by-cons (λ y. cond (p y) 1 0) x xs ∙ ap (λ b. cond b 1 0 + count_by p xs) is ∙ omega arith in
          let first : cond (p x) (f x) 0 ≡ u = ap (λ b. cond b (f x) 0) is ∙ same is in
          omega (arith, sum_by-cons (λ y. cond (p y) (f y) 0) x xs, suc-mul (count_by p xs) u, ap (λ n. n * u) one)
      go false is same before =
          let none : count_by p (x ∷ xs) ≡ count_by p xs = sum_by-cons (λ y. cond (p y) 1 0) x xs ∙ ap (λ b. cond b 1 0 + count_by p xs) is ∙ omega arith in
          let first : cond (p x) (f x) 0 ≡ 0 = ap (λ b. cond b (f x) 0) is in
          omega (arith, sum_by-cons (λ y. cond (p y) (f y) 0) x xs, ap (λ n. n * u) none)

-- a test that passes everywhere
pub every_from : (n : ℕ) (test : ℕ → Bool) → ((r : ℕ) → r < n → test r ≡ true) → every n test ≡ true
unfolding every
every_from zero test h = refl
every_from (suc n) test h = and_from _ _ (every_from n test (λ r l. h r (omega arith))) (h n (omega arith))
