-- Sets of rows and their words turn into each other without loss. Assumes nothing.
use Rattle.std.proofs.Common.{◌≡◌, ℕ, zero, suc, ◌+◌, ◌*◌, ◌/◌, ◌%◌, ◌^◌, ◌<◌, ◌≤◌, Bool, true, false, cond, eqb, List, [], ◌∷◌, ◌++◌, length, get_or, take, sym, refl, ap, ◌∙◌, subst, ap₂, one-mul, zero-mul, div-one, mul_left_comm, arith, pow_mono}
use native.Mathlib.Nat.{pow-succ', div-div-eq-div-mul, div-eq_of_lt}
use lib.Bits.{bit_and, bit_or, and_mask, or_shifted_r}
use Rattle.std.proofs.lemmas.Nat.{one_shl}
use Rattle.std.proofs.lemmas.List.{ext_get_or, take_more, length-take-le}
use Rattle.std.proofs.lemmas.Bool.Decides.{nat_tests}
use Rattle.bus.specs.Rows.{member, members, word_of}

-- one row on is half the word
pub member_suc : (w r : ℕ) → member w (suc r) ≡ member (w / 2) r
member_suc w r = ap (λ q. eqb (q % 2) 1) (ap (λ p. w / p) (pow-succ' 2 r) ∙ sym (div-div-eq-div-mul w 2 (2 ^ r)))

pub get_or_members : (n w r : ℕ) → r < n → get_or (members n w) r false ≡ member w r
unfolding members
get_or_members zero w r h = absurd (omega arith)
get_or_members (suc n) w zero h = refl
get_or_members (suc n) w (suc r) h = get_or_members n (w / 2) r (omega arith) ∙ sym (member_suc w r)

pub length_members : (n w : ℕ) → length (members n w) ≡ n
unfolding members
length_members zero w = refl
length_members (suc n) w = ap suc (length_members n (w / 2))

-- a bit as a number
bit_below : (b : Bool) → cond b 1 0 < 2
bit_below b = grind (arith, nat_tests)

pub word_of_below : (bs : List Bool) → word_of bs < 2 ^ length bs
unfolding word_of
word_of_below [] = omega arith
word_of_below (b ∷ bs) = omega (arith, bit_below b, word_of_below bs, pow-succ' 2 (length bs))

half : (b : Bool) (w : ℕ) → (cond b 1 0 + 2 * w) / 2 ≡ w
half b w = omega (arith, bit_below b)

odd : (b : Bool) (w : ℕ) → member (cond b 1 0 + 2 * w) 0 ≡ b
odd true w = rw div-one (grind (arith, nat_tests))
odd false w = rw div-one (grind (arith, nat_tests))

pub members_word_of : (bs : List Bool) → members (length bs) (word_of bs) ≡ bs
unfolding members word_of
members_word_of [] = refl
members_word_of (b ∷ bs) = ap₂ ◌∷◌ (odd b (word_of bs)) (ap (members (length bs)) (half b (word_of bs)) ∙ members_word_of bs)

lowest : (w : ℕ) → cond (member w 0) 1 0 ≡ w % 2
lowest w = rw div-one (grind (arith, nat_tests))

pub word_of_members : (n w : ℕ) → w < 2 ^ n → word_of (members n w) ≡ w
unfolding members word_of
word_of_members zero w h = omega arith
word_of_members (suc n) w h = omega (arith, lowest w, word_of_members n (w / 2) (omega (arith, pow-succ' 2 n)))

pub word_of_push : (bs : List Bool) (b : Bool) → word_of (bs ++ b ∷ []) ≡ word_of bs + cond b 1 0 * 2 ^ length bs
unfolding word_of
word_of_push [] b = omega arith
word_of_push (a ∷ bs) b = omega (arith, word_of_push bs b, ap (λ p. cond b 1 0 * p) (pow-succ' 2 (length bs)), mul_left_comm (cond b 1 0) 2 (2 ^ length bs))

-- the code's test of a bit
pub tests_member : (w r : ℕ) → eqb (bit_and (w / 2 ^ r) 1) 1 ≡ member w r
tests_member w r = ap (λ q. eqb q 1) (and_mask (w / 2 ^ r) 1)

-- no row past the word's width is a member
pub no_member_past : (w n r : ℕ) → w < 2 ^ n → n ≤ r → member w r ≡ false
no_member_past w n r below past = ap (λ q. eqb (q % 2) 1) (div-eq_of_lt {n = w} {m = 2 ^ r} (omega (arith, pow_mono {i = n} {j = r} past)))

-- a list of so many rows that agrees with the word at each is the word's
pub members_by_rows : (n w : ℕ) (bs : List Bool) → length bs ≡ n → ((k : ℕ) → k < n → get_or bs k false ≡ member w k) → bs ≡ members n w
members_by_rows n w bs long each =
    ext_get_or false bs (members n w) (long ∙ sym (length_members n w)) (λ k h. let in_n : k < n = omega arith in each k in_n ∙ sym (get_or_members n w k in_n))

module _ (bs : List Bool) (r : ℕ) (h : r < length bs) where
  front_long : length (take r bs) ≡ r
  front_long = length-take-le r bs (omega arith)

  one_more : word_of (take (r + 1) bs) ≡ word_of (take r bs) + cond (get_or bs r false) 1 0 * 2 ^ r
  one_more =
      ap word_of (take_more bs r false h) ∙ word_of_push (take r bs) (get_or bs r false) ∙ ap (λ n. word_of (take r bs) + cond (get_or bs r false) 1 0 * 2 ^ n) front_long

  -- the code sets the bit of row r, above all the bits so far
  pub word_of_set : r < 32 → get_or bs r false ≡ true → bit_or (word_of (take r bs)) ((1 * 2 ^ r) % 2 ^ 32) ≡ word_of (take (r + 1) bs)
  word_of_set below is =
      let bit : cond (get_or bs r false) 1 0 * 2 ^ r ≡ 1 * 2 ^ r = ap (λ b. cond b 1 0 * 2 ^ r) is in
      let low : word_of (take r bs) < 2 ^ r = subst (λ n. word_of (take r bs) < 2 ^ n) front_long (word_of_below (take r bs)) in
      let whole : (1 * 2 ^ r) % 2 ^ 32 ≡ 1 * 2 ^ r = one_shl r 32 below ∙ sym (one-mul (2 ^ r)) in
      ap (bit_or (word_of (take r bs))) whole ∙ or_shifted_r 1 r (word_of (take r bs)) low ∙ omega (arith, one_more, bit)

  -- or leaves it
  pub word_of_left : get_or bs r false ≡ false → word_of (take r bs) ≡ word_of (take (r + 1) bs)
  word_of_left is = omega (arith, one_more, ap (λ b. cond b 1 0 * 2 ^ r) is ∙ zero-mul (2 ^ r))
