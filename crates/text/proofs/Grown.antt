-- Texts that grow. Assumes nothing.
use Rattle.std.proofs.Common.{◌≡◌, ℕ, zero, suc, List, [], ◌∷◌, ◌++◌, take, refl, ap, ◌∙◌, append_assoc, ◌≤◌, length}
use Rattle.std.proofs.lemmas.List.{take_all}
use Rattle.text.specs.Texts.{grown}

-- what was let go once does not come back
front_again : {X : Type 0} (n : ℕ) (xs ys : List X) → take n (take n xs ++ ys) ≡ take n (xs ++ ys)
front_again zero xs ys = refl
front_again (suc n) [] ys = refl
front_again (suc n) (x ∷ xs) ys = ap (λ l. x ∷ l) (front_again n xs ys)

-- to grow twice is to grow by both
pub grown_twice : (room : ℕ) (text a b : List ℕ) → grown room (grown room text a) b ≡ grown room text (a ++ b)
grown_twice room text a b = front_again room (text ++ a) b ∙ ap (λ l. take room l) (append_assoc text a b)

-- what is pushed next is the front of what is left
pub pushed : (room : ℕ) (text more after rest : List ℕ) → after ≡ grown room text more → grown room after rest ≡ grown room text (more ++ rest)
pushed room text more after rest is = ap (λ l. grown room l rest) is ∙ grown_twice room text more rest

-- a text that holds `all` of what was pushed, and then `more`
pub further : (room : ℕ) {was is : List ℕ} (all more : List ℕ) → was ≡ grown room [] all → is ≡ grown room was more → is ≡ grown room [] (all ++ more)
further room all more old new = new ∙ ap (λ l. grown room l more) old ∙ grown_twice room [] all more

-- a short one loses nothing
pub whole : (room : ℕ) (text : List ℕ) → length text ≤ room → grown room [] text ≡ text
whole room text short = take_all room text short
