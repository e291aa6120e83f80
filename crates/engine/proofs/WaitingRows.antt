-- The word of the waiting rows, and the comparison of two such words. Assumes nothing.
use Rattle.std.proofs.Common.{◌≡◌, ℕ, zero, suc, ◌/◌, ◌%◌, ◌^◌, ◌<◌, Bool, true, false, List, not, ◌&&◌, ◌||◌, eqb, map, length, get_or, sym, refl, ap, ◌∙◌, subst, ap₂, ⊎_elim, arith}
use native.Mathlib.Nat.{pow-succ'}
use lib.Bits.{bit_and, bit_or, and_lt, and_shr, and_mod, or_shr, or_mod}
use Rattle.std.specs.List.{range_with_len}
use Rattle.std.proofs.lemmas.List.FromFn.{length-map-range_with_len, get_or-map-range_with_len}
use Rattle.std.proofs.lemmas.Bool.{cases_eq, eq-eqb, ne_eqb, and_from, both_ways}
use Rattle.bus.specs.Rows.{member, members, word_of}
use Rattle.bus.proofs.Words.{members_word_of, get_or_members, word_of_members, members_by_rows, word_of_below, length_members, member_suc, no_member_past}
use Rattle.engine.specs.Cycle.{Slots}
use Rattle.engine.specs.Rehearsal.{every, settled}
use Rattle.engine.specs.Held.{word_below}
use Rattle.engine.specs.Waiting.{waits_at, waiting_word}
use Rattle.engine.proofs.Tests.{every_at}

-- the word of those that pass a test has exactly them
pub member_word : (test : ℕ → Bool) (n r : ℕ) → r < n → member (word_of (map test (range_with_len 0 n))) r ≡ test r
member_word test n r h =
    let flags = map test (range_with_len 0 n) in
    let long : length flags ≡ n = length-map-range_with_len test 0 n in
    sym (get_or_members n (word_of flags) r h)
    ∙ ap (λ k. get_or (members k (word_of flags)) r false) (sym long)
    ∙ ap (λ bs. get_or bs r false) (members_word_of flags)
    ∙ get_or-map-range_with_len test 0 n r r false h (omega arith)

pub word_fits : (test : ℕ → Bool) (n : ℕ) → word_of (map test (range_with_len 0 n)) < 2 ^ n
word_fits test n = subst (λ m. word_of (map test (range_with_len 0 n)) < 2 ^ m) (length-map-range_with_len test 0 n) (word_of_below (map test (range_with_len 0 n)))

-- the word of the waiting rows
pub waiting_below : (t : Slots) (n : ℕ) → word_below n (waits_at t) ≡ waiting_word n t
unfolding waiting_word word_below
waiting_below t n = refl

-- it has exactly the waiting rows
pub member_waiting : (n : ℕ) (t : Slots) (r : ℕ) → r < n → member (waiting_word n t) r ≡ waits_at t r
unfolding waiting_word
member_waiting n t = member_word (waits_at t) n

-- words that have the same rows are equal
pub words_agree : (n a b : ℕ) → a < 2 ^ n → b < 2 ^ n → ((k : ℕ) → k < n → member a k ≡ member b k) → a ≡ b
words_agree n a b below_a below_b each =
    sym (word_of_members n a below_a)
    ∙ ap word_of (members_by_rows n b (members n a) (length_members n a) (λ k h. get_or_members n a k h ∙ each k h))
    ∙ word_of_members n b below_b

-- one bit of `&`
bit_and_lem : (x y : ℕ) → x < 2 → y < 2 → eqb (bit_and x y) 1 ≡ (eqb x 1 && eqb y 1)
bit_and_lem zero zero p q = refl
bit_and_lem zero (suc zero) p q = refl
bit_and_lem (suc zero) zero p q = refl
bit_and_lem (suc zero) (suc zero) p q = refl
bit_and_lem zero (suc (suc y)) p q = absurd (omega arith)
bit_and_lem (suc zero) (suc (suc y)) p q = absurd (omega arith)
bit_and_lem (suc (suc x)) y p q = absurd (omega arith)

-- `&` has the rows that both have
pub member_and : (a b r : ℕ) → member (bit_and a b) r ≡ (member a r && member b r)
member_and a b r =
    ap (λ q. eqb (q % 2) 1) (and_shr a b r)
    ∙ ap (λ q. eqb q 1) (and_mod (a / 2 ^ r) (b / 2 ^ r) 1)
    ∙ bit_and_lem (a / 2 ^ r % 2) (b / 2 ^ r % 2) (omega arith) (omega arith)

bit_or_lem : (x y : ℕ) → x < 2 → y < 2 → eqb (bit_or x y) 1 ≡ (eqb x 1 || eqb y 1)
bit_or_lem zero zero p q = refl
bit_or_lem zero (suc zero) p q = refl
bit_or_lem (suc zero) zero p q = refl
bit_or_lem (suc zero) (suc zero) p q = refl
bit_or_lem zero (suc (suc y)) p q = absurd (omega arith)
bit_or_lem (suc zero) (suc (suc y)) p q = absurd (omega arith)
bit_or_lem (suc (suc x)) y p q = absurd (omega arith)

-- `|` has the rows that one of them has
pub member_or : (a b r : ℕ) → member (bit_or a b) r ≡ (member a r || member b r)
member_or a b r =
    ap (λ q. eqb (q % 2) 1) (or_shr a b r)
    ∙ ap (λ q. eqb q 1) (or_mod (a / 2 ^ r) (b / 2 ^ r) 1)
    ∙ bit_or_lem (a / 2 ^ r % 2) (b / 2 ^ r % 2) (omega arith) (omega arith)

pub eqb_suc : (a b : ℕ) → eqb a b ≡ eqb (suc a) (suc b)
eqb_suc a b =
    ⊎_elim
    (λ (same : a ≡ b). eq-eqb a b same ∙ sym (eq-eqb (suc a) (suc b) (ap suc same)))
    (λ (other : a ≡ b → ⊥). ne_eqb a b other ∙ sym (ne_eqb (suc a) (suc b) (λ e. other (omega arith))))
    (cases_eq a b)

-- the word of one row
pub member_one : (q r : ℕ) → member (2 ^ q) r ≡ eqb r q
member_one zero zero = refl
member_one zero (suc r) = member_suc 1 r ∙ no_member_past 0 0 r (omega arith) (omega arith) ∙ sym (ne_eqb (suc r) 0 (λ e. omega arith))
member_one (suc q) zero = ap (λ n. eqb n 1) (let even : 2 ^ suc q / 2 ^ 0 % 2 ≡ 0 = omega (arith, pow-succ' 2 q) in even) ∙ sym (ne_eqb 0 (suc q) (λ e. omega arith))
member_one (suc q) (suc r) = member_suc (2 ^ suc q) r ∙ ap (λ w. member w r) (let half : 2 ^ suc q / 2 ≡ 2 ^ q = omega (arith, pow-succ' 2 q) in half) ∙ member_one q r ∙ eqb_suc r q

every_from : (n : ℕ) (test : ℕ → Bool) → ((r : ℕ) → r < n → test r ≡ true) → every n test ≡ true
unfolding every
every_from zero test each = refl
every_from (suc n) test each = and_from _ _ (every_from n test (λ r h. each r (omega arith))) (each n (omega arith))

every_like : (n : ℕ) (test other : ℕ → Bool) → ((r : ℕ) → r < n → test r ≡ other r) → every n test ≡ every n other
unfolding every
every_like zero test other same = refl
every_like (suc n) test other same = ap₂ ◌&&◌ (every_like n test other (λ r h. same r (omega arith))) (same n (omega arith))

-- row k of the second word is one of the first
abbrev within : ℕ → ℕ → ℕ → Bool
within start end k = not (member end k) || member start k

only_in : (x y : Bool) → (not y || x) ≡ true → (x && y) ≡ y
only_in true true h = refl
only_in true false h = refl
only_in false true h = h
only_in false false h = refl

in_both : (x y : Bool) → (x && y) ≡ y → (not y || x) ≡ true
in_both true true h = refl
in_both true false h = refl
in_both false true h = h
in_both false false h = refl

-- `&` leaves the second word as it is exactly where all its rows are in the first
pub all_within : (n start end : ℕ) → start < 2 ^ n → end < 2 ^ n → eqb (bit_and start end) end ≡ every n (within start end)
all_within n start end below_start below_end = go (every n (within start end)) refl
  where
    go : (b : Bool) → every n (within start end) ≡ b → eqb (bit_and start end) end ≡ b
    go true e =
        eq-eqb (bit_and start end) end
        (words_agree n (bit_and start end) end (and_lt n start end below_start below_end) below_end
        (λ k h. member_and start end k ∙ only_in (member start k) (member end k) (every_at n (within start end) e k h)))
    go false e =
        ne_eqb (bit_and start end) end
        (λ same. both_ways (every n (within start end)) e
        (every_from n (within start end)
        (λ k h. in_both (member start k) (member end k) (sym (member_and start end k) ∙ ap (λ w. member w k) same))))

-- of words that have the waiting rows of two tables, that is the settled test
pub settled_by_members : (n start end : ℕ) (a b : Slots) → ((k : ℕ) → k < n → member start k ≡ waits_at a k) → ((k : ℕ) → k < n → member end k ≡ waits_at b k) → every n (within start end) ≡ settled n a b
unfolding settled
settled_by_members n start end a b is_a is_b =
    every_like n (within start end) (λ r. not (waits_at b r) || waits_at a r) (λ r h. ap₂ (λ x y. not y || x) (is_a r h) (is_b r h))

pub settled_by_words : (n start end : ℕ) (a b : Slots) → start ≡ waiting_word n a → end ≡ waiting_word n b → every n (within start end) ≡ settled n a b
settled_by_words n start end a b is_a is_b =
    settled_by_members n start end a b (λ r h. ap (λ w. member w r) is_a ∙ member_waiting n a r h) (λ r h. ap (λ w. member w r) is_b ∙ member_waiting n b r h)

-- a word that is made from a list of tests has their rows
pub row_of_list : (word : ℕ) (rows : List Bool) (test : ℕ → Bool) → members 32 word ≡ rows → ((k : ℕ) → k < 32 → get_or rows k false ≡ test k) → (k : ℕ) → k < 32 → member word k ≡ test k
row_of_list word rows test kept each k h = sym (get_or_members 32 word k h) ∙ ap (λ xs. get_or xs k false) kept ∙ each k h

pub word_of_list : (word : ℕ) (rows : List Bool) (test : ℕ → Bool) → word < 2 ^ 32 → members 32 word ≡ rows → ((k : ℕ) → k < 32 → get_or rows k false ≡ test k) → word ≡ word_below 32 test
unfolding word_below
word_of_list word rows test few kept each = words_agree 32 word _ few (word_fits test 32) (λ k h. row_of_list word rows test kept each k h ∙ sym (member_word test 32 k h))
