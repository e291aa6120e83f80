-- How the first part of what is left is found. Assumes nothing.
use Rattle.std.proofs.Common.{◌≡◌, ℕ, suc, ◌+◌, ◌-◌, ◌<◌, ◌≤◌, true, false, cond, not, List, [], ◌∷◌, length, take, drop, Some, None, sym, refl, ap, ◌∙◌, inl, inr, arith}
use Rattle.std.specs.List.{position, position_or_len}
use Rattle.std.proofs.lemmas.Bool.{cases_lt, lt-ltb, le-ltb}
use Rattle.std.proofs.lemmas.List.{take_all, drop-drop, length-drop}
use Rattle.lines.specs.Signs.{is_end}
use Rattle.lines.specs.Parts.{placed, longer, parts}

-- the first part goes up to the first sign that ends one
cut : (bs : List ℕ) (p : ℕ) → position_or_len is_end bs < length bs
    → parts p bs ≡ placed p (take (position_or_len is_end bs) bs) ∷ parts (p + (position_or_len is_end bs + 1)) (drop (position_or_len is_end bs + 1) bs)
cut [] p lt = absurd (omega (arith, lt))
cut (b ∷ bs) p lt =
    let m = position_or_len is_end bs in
    let here : suc m ≡ 1 + m = omega arith in
    let there : suc (m + 1) ≡ 1 + m + 1 = omega arith in
    let place : p + 1 + (m + 1) ≡ p + (1 + m + 1) = omega arith in
    elim (is_end b) as (λ e. let n = cond (not e) (1 + m) 0 in n < suc (length bs) → cond e (placed p [] ∷ parts (p + 1) bs) (longer p b (parts (p + 1) bs)) ≡ placed p (take n (b ∷ bs)) ∷ parts (p + (n + 1)) (drop (n + 1) (b ∷ bs))) [
      | true ↦ λ _. refl
      | false ↦ λ more.
          ap (longer p b) (cut bs (p + 1) (omega (arith, more)))
          ∙ (λ i. placed p (take (here i) (b ∷ bs)) ∷ parts (place i) (drop (there i) (b ∷ bs)))
    ] lt

-- without such a sign no part is left
none : (bs : List ℕ) (p : ℕ) → length bs ≤ position_or_len is_end bs → parts p bs ≡ []
none [] p le = refl
none (b ∷ bs) p le =
    elim (is_end b) as (λ e. suc (length bs) ≤ cond (not e) (1 + position_or_len is_end bs) 0 → cond e (placed p [] ∷ parts (p + 1) bs) (longer p b (parts (p + 1) bs)) ≡ []) [
      | true ↦ λ low. absurd (omega (arith, low))
      | false ↦ λ more. ap (longer p b) (none bs (p + 1) (omega (arith, more)))
    ] le

found_at : (bs : List ℕ) (p n : ℕ) → position is_end bs ≡ Some n → parts p bs ≡ placed p (take n bs) ∷ parts (p + (n + 1)) (drop (n + 1) bs)
found_at bs p n found =
    let m = position_or_len is_end bs in
    elim (cases_lt m (length bs)) [
      | inl lt ↦
          let same : m ≡ n = let e = lt-ltb _ _ lt in grind (arith, found, e) in
          cut bs p lt ∙ ap (λ k. placed p (take k bs) ∷ parts (p + (k + 1)) (drop (k + 1) bs)) same
      | inr le ↦ absurd (let e = le-ltb _ _ le in grind (arith, found, e))
    ]

module _ (line rest : List ℕ) (at : ℕ) (is : rest ≡ take (length line - at) (drop at line)) where
  all : rest ≡ drop at line
  all = is ∙ take_all _ (drop at line) (simp length-drop (omega arith))

  pub cut_at : (n : ℕ) → position is_end rest ≡ Some n → parts at (drop at line) ≡ placed at (take n rest) ∷ parts (at + (n + 1)) (drop (at + (n + 1)) line)
  cut_at n found =
      ap (parts at) (sym all)
      ∙ found_at rest at n found
      ∙ ap (λ l. placed at (take n rest) ∷ parts (at + (n + 1)) l) (ap (drop (n + 1)) all ∙ drop-drop (n + 1) at line)

  pub none_at : position is_end rest ≡ None → parts at (drop at line) ≡ []
  none_at found =
      ap (parts at) (sym all)
      ∙ elim (cases_lt (position_or_len is_end rest) (length rest)) [
        | inl lt ↦ absurd (let e = lt-ltb _ _ lt in grind (arith, found, e))
        | inr le ↦ none rest at le
      ]
