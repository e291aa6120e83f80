-- The rows of a set, the lowest first. Assumes nothing.
use Rattle.std.proofs.Common.{◌≡◌, ℕ, zero, suc, ◌+◌, ◌-◌, ◌^◌, ◌<◌, ◌≤◌, Bool, true, false, not, ◌&&◌, cond, eqb, ◌⊎◌, List, [], ◌∷◌, sym, refl, ap, ◌∙◌, subst, inl, inr, arith}
use lib.Bits.{bit_and}
use lib.Count.{count_trailing_zeros}
use Rattle.std.specs.List.{filter, range_with_len}
use Rattle.std.proofs.lemmas.Bool.{eq-eqb, ne_eqb, and_right, cases_Bool, cases_lt, false≢true}
use Rattle.std.proofs.Math.Bool.{and-true}
use Rattle.bus.specs.Rows.{member, rows_of}
use Rattle.bus.proofs.Words.{no_member_past}
use Rattle.bus.proofs.Lowest.{lowest_row}

-- n numbers from a on, of which those that pass p are kept
abbrev kept : (ℕ → Bool) → ℕ → ℕ → List ℕ
kept p a n = filter p (range_with_len a n)

kept_passes : (p : ℕ → Bool) (a n : ℕ) → p a ≡ true → kept p a (suc n) ≡ a ∷ kept p (a + 1) n
kept_passes p a n is = ap (λ b. cond b (a ∷ kept p (a + 1) n) (kept p (a + 1) n)) is

kept_fails : (p : ℕ → Bool) (a n : ℕ) → p a ≡ false → kept p a (suc n) ≡ kept p (a + 1) n
kept_fails p a n is = ap (λ b. cond b (a ∷ kept p (a + 1) n) (kept p (a + 1) n)) is

kept_none : (p : ℕ → Bool) (a n : ℕ) → ((j : ℕ) → a ≤ j → j < a + n → p j ≡ false) → kept p a n ≡ []
kept_none p a zero none = refl
kept_none p a (suc n) none = kept_fails p a n (none a (omega arith) (omega arith)) ∙ kept_none p (a + 1) n (λ j on few. none j (omega arith) (omega arith))

kept_same : (p q : ℕ → Bool) (a n : ℕ) → ((j : ℕ) → a ≤ j → j < a + n → p j ≡ q j) → kept p a n ≡ kept q a n
kept_same p q a zero same = refl
kept_same p q a (suc n) same =
    let rest : kept p (a + 1) n ≡ kept q (a + 1) n = kept_same p q (a + 1) n (λ j on few. same j (omega arith) (omega arith)) in
    let here : p a ≡ q a = same a (omega arith) (omega arith) in
    elim (cases_Bool (p a)) [
      | inl passes ↦ kept_passes p a n passes ∙ ap (λ xs. a ∷ xs) rest ∙ sym (kept_passes q a n (sym here ∙ passes))
      | inr fails ↦ kept_fails p a n fails ∙ rest ∙ sym (kept_fails q a n (sym here ∙ fails))
    ]

-- without the first of them
kept_first : (p q : ℕ → Bool) (s a n : ℕ) → a ≤ s → s < a + n → p s ≡ true → ((j : ℕ) → j < s → p j ≡ false) → ((j : ℕ) → q j ≡ (p j && not (eqb j s))) → kept p a n ≡ s ∷ kept q a n
kept_first p q s a zero on few is none without = absurd (omega arith)
kept_first p q s a (suc n) on few is none without =
    elim (cases_lt a s) [
      | inl below ↦
          let out : q a ≡ false = without a ∙ ap (λ b. b && not (eqb a s)) (none a below) in
          kept_fails p a n (none a below) ∙ kept_first p q s (a + 1) n (omega arith) (omega arith) is none without ∙ ap (λ xs. s ∷ xs) (sym (kept_fails q a n out))
      | inr past ↦
          let here : a ≡ s = omega arith in
          let out : q a ≡ false = without a ∙ and_right (p a) _ (ap not (eq-eqb a s here)) in
          let rest : kept p (a + 1) n ≡ kept q (a + 1) n = kept_same p q (a + 1) n (λ j later few'. sym (without j ∙ ap (λ b. p j && not b) (ne_eqb j s (λ e. omega arith)) ∙ and-true (p j))) in
          kept_passes p a n (subst (λ k. p k ≡ true) (sym here) is) ∙ ap (λ xs. a ∷ xs) rest ∙ ap (λ k. k ∷ kept q (a + 1) n) here ∙ ap (λ xs. s ∷ xs) (sym (kept_fails q a n out))
    ]

-- the first of them, x
record Begins (p : ℕ → Bool) (x a n : ℕ) : Type 0 where
  on : a ≤ x
  inside : x < a + n
  is : p x ≡ true
  none : (j : ℕ) → a ≤ j → j < x → p j ≡ false

begins : (p : ℕ → Bool) (x a n : ℕ) (others : List ℕ) → kept p a n ≡ x ∷ others → Begins p x a n
begins p x a zero others e = absurd cc
begins p x a (suc n) others e =
    elim (cases_Bool (p a)) [
      | inl passes ↦
          let here : a ≡ x = cc (kept_passes p a n passes) in
          record { on = omega arith; inside = omega arith; is = subst (λ k. p k ≡ true) here passes; none = λ j on before. absurd (omega arith) }
      | inr fails ↦
          let later = begins p x (a + 1) n others (sym (kept_fails p a n fails) ∙ e) in
          record {
            on = omega (arith, later.on);
            inside = omega (arith, later.inside);
            is = later.is;
            none = λ j on before.
                elim (cases_lt a j) [ inl past ↦ later.none j (omega arith) before | inr here ↦ let same : j ≡ a = omega arith in ap p same ∙ fails ];
          }
    ]

-- tests that keep the same numbers agree
kept_agree : (p q : ℕ → Bool) (a n : ℕ) → kept p a n ≡ kept q a n → (j : ℕ) → a ≤ j → j < a + n → p j ≡ q j
kept_agree p q a zero e j on few = absurd (omega arith)
kept_agree p q a (suc n) e j on few =
    agree_here (λ rest past. kept_agree p q (a + 1) n rest j (omega arith) (omega arith)) (cases_Bool (p a)) (cases_Bool (q a)) (cases_lt a j)
  where
    agree_here : (kept p (a + 1) n ≡ kept q (a + 1) n → a < j → p j ≡ q j) → (p a ≡ true) ⊎ (p a ≡ false) → (q a ≡ true) ⊎ (q a ≡ false) → (a < j) ⊎ (j ≤ a) → p j ≡ q j
    agree_here later (inl holds) (inl too) (inl past) =
        let rest : kept p (a + 1) n ≡ kept q (a + 1) n = cc (kept_passes p a n holds, kept_passes q a n too) in
        later rest past
    agree_here later (inr fails) (inr neither) (inl past) = later (sym (kept_fails p a n fails) ∙ e ∙ kept_fails q a n neither) past
    agree_here later (inl holds) (inl too) (inr here) = let same : j ≡ a = omega arith in ap p same ∙ holds ∙ sym (ap q same ∙ too)
    agree_here later (inr fails) (inr neither) (inr here) = let same : j ≡ a = omega arith in ap p same ∙ fails ∙ sym (ap q same ∙ neither)
    agree_here later (inl holds) (inr neither) either = absurd (omega (arith, (begins q a (a + 1) n _ (sym (kept_fails q a n neither) ∙ sym e ∙ kept_passes p a n holds)).on))
    agree_here later (inr fails) (inl too) either = absurd (omega (arith, (begins p a (a + 1) n _ (sym (kept_fails p a n fails) ∙ e ∙ kept_passes q a n too)).on))

-- of what is left the code gives the lowest, and leaves the others
pub rows_end : rows_of 0 ≡ []
unfolding rows_of
rows_end = kept_none (member 0) 0 32 (λ j on few. no_member_past 0 0 j (omega arith) (omega arith))

pub rows_next : (w : ℕ) → 0 < w → w < 2 ^ 32 → rows_of w ≡ count_trailing_zeros 32 w ∷ rows_of (bit_and w (w - 1))
unfolding rows_of
rows_next w some few =
    let low = lowest_row 32 w some few in
    kept_first (member w) (member (bit_and w (w - 1))) (count_trailing_zeros 32 w) 0 32 (omega arith) inside low.is low.none low.cleared
  where
    inside : count_trailing_zeros 32 w < 0 + 32
    inside =
        elim (cases_lt (count_trailing_zeros 32 w) 32) [
          | inl under ↦ omega arith
          | inr past ↦ absurd (false≢true (sym (no_member_past w 32 (count_trailing_zeros 32 w) few past) ∙ (lowest_row 32 w some few).is))
        ]

-- what the first of a set's rows says of the set, and of the set of the others
pub record First (row w others : ℕ) : Type 0 where
  pub inside : row < 32
  pub is : member w row ≡ true
  pub none : (j : ℕ) → j < row → member w j ≡ false
  pub left : (j : ℕ) → j < 32 → member others j ≡ (member w j && not (eqb j row))

pub first_row : (row w others : ℕ) → rows_of w ≡ row ∷ rows_of others → First row w others
unfolding rows_of
first_row row w others e =
    let at = begins (member w) row 0 32 _ e in
    let without : kept (member w) 0 32 ≡ row ∷ kept (λ j. member w j && not (eqb j row)) 0 32 =
    kept_first (member w) (λ j. member w j && not (eqb j row)) row 0 32 at.on at.inside at.is (λ j before. at.none j (omega arith) before) (λ j. refl) in
    let same : kept (member others) 0 32 ≡ kept (λ j. member w j && not (eqb j row)) 0 32 = cc in
    record {
      inside = omega (arith, at.inside);
      is = at.is;
      none = λ j before. at.none j (omega arith) before;
      left = λ j few. kept_agree (member others) (λ k. member w k && not (eqb k row)) 0 32 same j (omega arith) (omega arith);
    }

-- and a set with none of them is empty
pub no_row : (w : ℕ) → rows_of w ≡ [] → (j : ℕ) → j < 32 → member w j ≡ false
unfolding rows_of
no_row w e j few = kept_agree (member w) (member 0) 0 32 (e ∙ sym rows_end) j (omega arith) (omega arith) ∙ no_member_past 0 0 j (omega arith) (omega arith)
