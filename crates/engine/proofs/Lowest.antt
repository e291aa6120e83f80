-- The rows of a set that pass a test, one after the other. Assumes nothing.
use Rattle.std.proofs.Common.{◌≡◌, ℕ, zero, suc, ◌+◌, ◌<◌, ◌≤◌, Bool, true, false, not, ◌&&◌, eqb, leb, ◌⊎◌, [], ◌∷◌, sym, refl, ap, ◌∙◌, subst, inl, inr, arith, ◌^◌, cond, Some, None}
use Rattle.std.proofs.lemmas.Bool.{eq-eqb, ne_eqb, and_right, and_left, and_parts, leb-true, le-leb, lt-leb, cases_order, cases_eq, cases_lt, false≢true}
use Rattle.bus.specs.Rows.{member, rows_of}
use Rattle.bus.proofs.Rising.{first_row, no_row}
use Rattle.bus.proofs.Words.{no_member_past}
use Rattle.bus.proofs.Lowest.{lowest_row}
use lib.Count.{count_trailing_zeros}
use Rattle.engine.specs.Cycle.{lowest}
use Rattle.engine.proofs.Tests.{lowest_found, lowest_nowhere}

-- what is left of a word of the rows that pass a test: the rows from r on
abbrev pub RestOf : (ℕ → Bool) → (r rest : ℕ) → Type 0
RestOf test r rest = (k : ℕ) → k < 32 → member rest k ≡ (leb r k && test k)

pub rest_whole : (test : ℕ → Bool) (word : ℕ) → ((k : ℕ) → k < 32 → member word k ≡ test k) → RestOf test 0 word
rest_whole test word each k h = each k h ∙ sym (ap (λ b. b && test k) (le-leb 0 k (omega arith)))

-- the next row of what is left, and what is then left
pub record Next (test : ℕ → Bool) (r s others : ℕ) : Type 0 where
  pub on : r ≤ s
  pub inside : s < 32
  pub passes : test s ≡ true
  pub none : (k : ℕ) → r ≤ k → k < s → test k ≡ false
  pub left : RestOf test (s + 1) others

second : (r k : ℕ) (b : Bool) → r ≤ k → (leb r k && b) ≡ b
second r k b h = ap (λ a. a && b) (le-leb r k h)

pub next_row : (test : ℕ → Bool) (r s rest others : ℕ) → rows_of rest ≡ s ∷ rows_of others → RestOf test r rest → Next test r s others
next_row test r s rest others first left =
    let low = first_row s rest others first in
    let parts = and_parts (leb r s) (test s) (sym (left s low.inside) ∙ low.is) in
    let on : r ≤ s = leb-true r s parts.0 in
    record {
      on = on;
      inside = low.inside;
      passes = parts.1;
      none = λ k h b. sym (second r k (test k) h) ∙ sym (left k (omega (arith, low.inside))) ∙ low.none k b;
      left = λ k h. low.left k h ∙ ap (λ b. b && not (eqb k s)) (left k h) ∙ each k (cases_order k s) (λ b. sym (left k h) ∙ low.none k b) on;
    }
  where
    each : (k : ℕ) → (k ≡ s) ⊎ ((k < s) ⊎ (s < k)) → (k < s → (leb r k && test k) ≡ false) → r ≤ s → ((leb r k && test k) && not (eqb k s)) ≡ (leb (s + 1) k && test k)
    each k (inl here) below on = and_right _ _ (ap not (eq-eqb k _ here)) ∙ sym (and_left (leb (s + 1) k) (test k) (lt-leb _ k (omega arith)))
    each k (inr (inl lower)) below on = and_left _ _ (below lower) ∙ sym (and_left (leb (s + 1) k) (test k) (lt-leb _ k (omega arith)))
    each k (inr (inr above)) below on =
        ap (λ b. (leb r k && test k) && not b) (ne_eqb k _ (λ e. omega arith)) ∙ keep (leb r k && test k) ∙ second r k (test k) (omega arith) ∙ sym (second (s + 1) k (test k) (omega arith))
      where
        keep : (b : Bool) → (b && true) ≡ b
        keep true = refl
        keep false = refl

-- where nothing is left no further row passes
pub none_left : (test : ℕ → Bool) (r rest : ℕ) → rows_of rest ≡ [] → RestOf test r rest → (k : ℕ) → r ≤ k → k < 32 → test k ≡ false
none_left test r rest none left k h b = sym (second r k (test k) h) ∙ sym (left k b) ∙ no_row rest none k b

-- what holds row by row, past rows that do not pass
pub skipped : (P : ℕ → Type 0) (test : ℕ → Bool) → ((k : ℕ) → k < 32 → test k ≡ false → P k → P (k + 1))
    → (d r s : ℕ) → r + d ≡ s → s ≤ 32 → ((k : ℕ) → r ≤ k → k < s → test k ≡ false) → P r → P s
skipped P test next zero r s e few none p = subst P (let same : r ≡ s = omega arith in same) p
skipped P test next (suc d) r s e few none p =
    skipped P test next d (r + 1) s (omega arith) few (λ k h b. none k (omega arith) b) (next r (omega arith) (none r (omega arith) (omega arith)) p)

-- the lowest row that passes a test, from the word of those that pass
pub lowest_of_word : (test : ℕ → Bool) (w : ℕ) → w < 2 ^ 32 → ((k : ℕ) → k < 32 → member w k ≡ test k)
    → lowest 32 test ≡ cond (eqb w 0) None (Some (count_trailing_zeros 32 w))
lowest_of_word test w few each =
    elim (cases_eq w 0) [
      | inl none ↦
          lowest_nowhere 32 test (λ k h. sym (each k h) ∙ ap (λ v. member v k) none ∙ no_member_past 0 0 k (omega arith) (omega arith))
          ∙ sym (ap (λ b. cond b None (Some (count_trailing_zeros 32 w))) (eq-eqb w 0 none))
      | inr some ↦
          let low = lowest_row 32 w (omega arith) few in
          lowest_found 32 (count_trailing_zeros 32 w) test
          (lowest_nowhere (count_trailing_zeros 32 w) test (λ k h. sym (each k (omega (arith, in_word w few low.is))) ∙ low.none k h))
          (sym (each (count_trailing_zeros 32 w) (in_word w few low.is)) ∙ low.is) (in_word w few low.is)
          ∙ sym (ap (λ b. cond b None (Some (count_trailing_zeros 32 w))) (ne_eqb w 0 some))
    ]
  where
    in_word : (w : ℕ) → w < 2 ^ 32 → member w (count_trailing_zeros 32 w) ≡ true → count_trailing_zeros 32 w < 32
    in_word w few is =
        elim (cases_lt (count_trailing_zeros 32 w) 32) [
          | inl yes_in ↦ yes_in
          | inr past ↦ absurd (false≢true (sym (no_member_past w 32 (count_trailing_zeros 32 w) few past) ∙ is))
        ]
