-- The lowest row of a word, and the word without it. Assumes nothing.
use Rattle.std.proofs.Common.{◌≡◌, ℕ, zero, suc, ◌+◌, ◌-◌, ◌*◌, ◌/◌, ◌%◌, ◌^◌, ◌<◌, min, true, false, not, ◌&&◌, eqb, sym, refl, ap, ◌∙◌, subst, ap₂, inl, inr, arith}
use native.Mathlib.Nat.{pow-succ'}
use lib.Bits.{bit_and, and_step, and_self}
use lib.Count.{count_trailing_zeros, under}
use Rattle.std.proofs.lemmas.Bool.{eq-eqb, ne_eqb, and_right, and_left, cases_eq}
use Rattle.std.proofs.Math.Bool.{and-true}
use Rattle.std.proofs.Math.Dec.{eqb-suc-suc}
use Rattle.bus.specs.Rows.{member}
use Rattle.bus.proofs.Words.{member_suc}

-- s is the lowest row of a word, and the code takes it out
pub record Lowest (s w : ℕ) : Type 0 where
  pub is : member w s ≡ true
  pub none : (j : ℕ) → j < s → member w j ≡ false
  pub cleared : (j : ℕ) → member (bit_and w (w - 1)) j ≡ (member w j && not (eqb j s))

bit_set : (w : ℕ) → w % 2 ≡ 1 → member w 0 ≡ true
bit_set w odd = eq-eqb (w / 2 ^ 0 % 2) 1 (omega arith)

bit_clear : (w : ℕ) → w % 2 ≡ 0 → member w 0 ≡ false
bit_clear w even = ne_eqb (w / 2 ^ 0 % 2) 1 (λ e. omega arith)

-- a word whose half is known
member_half : (w m j : ℕ) → w / 2 ≡ m → member w (suc j) ≡ member m j
member_half w m j e = member_suc w j ∙ ap (λ v. member v j) e

when_odd : (w : ℕ) → w % 2 ≡ 1 → Lowest 0 w
when_odd w odd =
    let less : (w - 1) / 2 ≡ w / 2 = omega arith in
    let bit : (w - 1) % 2 ≡ 0 = omega arith in
    let rest : bit_and w (w - 1) ≡ w / 2 * 2 + 0 =
    and_step w (w - 1) ∙ ap₂ (λ a b. a * 2 + b) (ap (bit_and (w / 2)) less ∙ and_self (w / 2)) (ap₂ min odd bit) in
    record { is = bit_set w odd; none = λ j h. absurd (omega arith); cleared = each rest }
  where
    each : bit_and w (w - 1) ≡ w / 2 * 2 + 0 → (j : ℕ) → member (bit_and w (w - 1)) j ≡ (member w j && not (eqb j 0))
    each rest zero = bit_clear (bit_and w (w - 1)) (omega arith) ∙ sym (and_right (member w 0) _ refl)
    each rest (suc j) =
        member_half (bit_and w (w - 1)) (w / 2) j (omega arith) ∙ sym (member_suc w j) ∙ sym (and-true (member w (suc j))) ∙ ap (λ b. member w (suc j) && not b) (sym (ne_eqb (suc j) 0 (λ e. omega arith)))

when_even : (w s : ℕ) → 0 < w → w % 2 ≡ 0 → Lowest s (w / 2) → Lowest (suc s) w
when_even w s some even half =
    let less : (w - 1) / 2 ≡ w / 2 - 1 = omega arith in
    let bit : (w - 1) % 2 ≡ 1 = omega arith in
    let rest : bit_and w (w - 1) ≡ bit_and (w / 2) (w / 2 - 1) * 2 + 0 = and_step w (w - 1) ∙ ap₂ (λ a b. a * 2 + b) (ap (bit_and (w / 2)) less) (ap₂ min even bit) in
    record { is = member_suc w s ∙ half.is; none = below; cleared = each rest }
  where
    below : (j : ℕ) → j < suc s → member w j ≡ false
    below zero h = bit_clear w even
    below (suc j) h = member_suc w j ∙ half.none j (omega arith)

    each : bit_and w (w - 1) ≡ bit_and (w / 2) (w / 2 - 1) * 2 + 0 → (j : ℕ) → member (bit_and w (w - 1)) j ≡ (member w j && not (eqb j (suc s)))
    each rest zero = bit_clear (bit_and w (w - 1)) (omega arith) ∙ sym (and_left (member w 0) _ (bit_clear w even))
    each rest (suc j) =
        member_half (bit_and w (w - 1)) (bit_and (w / 2) (w / 2 - 1)) j (omega arith) ∙ half.cleared j ∙ ap₂ (λ a b. a && not b) (sym (member_suc w j)) (sym (eqb-suc-suc j s))

zeros_odd : (k w : ℕ) → w % 2 ≡ 1 → count_trailing_zeros (suc k) w ≡ 0
unfolding count_trailing_zeros
zeros_odd k w odd = ap (λ b. under b (count_trailing_zeros k (w / 2))) odd

zeros_even : (k w : ℕ) → w % 2 ≡ 0 → count_trailing_zeros (suc k) w ≡ suc (count_trailing_zeros k (w / 2))
unfolding count_trailing_zeros
zeros_even k w even = ap (λ b. under b (count_trailing_zeros k (w / 2))) even

pub lowest_row : (k w : ℕ) → 0 < w → w < 2 ^ k → Lowest (count_trailing_zeros k w) w
lowest_row zero w some few = absurd (omega arith)
lowest_row (suc k) w some few =
    elim (cases_eq (w % 2) 1) [
      | inl odd ↦ subst (λ s. Lowest s w) (sym (zeros_odd k w odd)) (when_odd w odd)
      | inr other ↦
          let even : w % 2 ≡ 0 = omega arith in
          subst (λ s. Lowest s w) (sym (zeros_even k w even)) (when_even w (count_trailing_zeros k (w / 2)) some even (lowest_row k (w / 2) (omega arith) (omega (arith, pow-succ' 2 k))))
    ]
