-- Where each row stands in a trigger's bytes, and that nothing is lost on the way. Assumes nothing.
use Rattle.std.proofs.Common.{◌≡◌, ℕ, zero, suc, ◌+◌, ◌-◌, ◌*◌, ◌/◌, ◌%◌, ◌^◌, ◌<◌, ◌≤◌, eqb, List, [], ◌∷◌, ◌++◌, length, get_or, take, drop, sym, refl, ap, ◌∙◌, add-zero, add_assoc, mod-eq_of_lt, div-one, arith}
use native.Mathlib.Nat.{div-div-eq-div-mul}
use Rattle.std.proofs.lemmas.Nat.{field_of, shr-shr, div_below}
use Rattle.std.proofs.lemmas.List.{drop_more, drop-drop, take-append-drop, get_or-append_right, get_or_append_left, length-take-le}
use lib.Arith.{digits_div, digits_mod}
use lib.Pow.{mod-mod-pow}
use borrow.Rule.Slice.PartMut.{put_mid}
use Rattle.bus.specs.Rows.{member}
use Rattle.bus.specs.Triggers.{trigger_bytes, trigger_word, NamedIn, put_at}

-- the low n bits keep their members
member_low : (n w j : ℕ) → j < n → member (w % 2 ^ n) j ≡ member w j
member_low n w j h =
    let split : (n - j) + j ≡ n = omega arith in
    let rest : (n - j - 1) + 1 ≡ n - j = omega arith in
    ap (λ q. eqb q 1)
    (ap (λ m. w % 2 ^ m / 2 ^ j % 2) (sym split) ∙ ap (λ q. q % 2) (field_of w (n - j) j) ∙ ap (λ m. w / 2 ^ j % 2 ^ m % 2) (sym rest) ∙ mod-mod-pow (w / 2 ^ j) (n - j - 1) 1)

member_shifted : (w m j : ℕ) → member (w / 2 ^ m) j ≡ member w (m + j)
member_shifted w m j = ap (λ q. eqb (q % 2) 1) (shr-shr w m j)

-- byte k of a word
byte_is : (w k : ℕ) → k < 4 → get_or (trigger_bytes w) k 0 ≡ w / 2 ^ (8 * k) % 2 ^ 8
byte_is w zero h = ap (λ q. q % 256) (sym (div-one w))
byte_is w (suc zero) h = refl
byte_is w (suc (suc zero)) h = refl
byte_is w (suc (suc (suc zero))) h = refl
byte_is w (suc (suc (suc (suc k)))) h = absurd (omega arith)

pub row_in_byte : (w r : ℕ) → r < 32 → member (get_or (trigger_bytes w) (r / 8) 0) (r % 8) ≡ member w r
row_in_byte w r h =
    ap (λ b. member b (r % 8)) (byte_is w (r / 8) (omega arith)) ∙ member_low 8 (w / 2 ^ (8 * (r / 8))) (r % 8) (omega arith) ∙ member_shifted w (8 * (r / 8)) (r % 8) ∙ ap (member w) (omega arith)

-- a buffer that holds a word's bytes from an offset on names its rows
pub named_by_bytes : (w : ℕ) (buffer : List ℕ) (offset : ℕ) → ((k : ℕ) → k < 4 → get_or buffer (offset + k) 0 ≡ get_or (trigger_bytes w) k 0) → NamedIn w buffer offset
named_by_bytes w buffer offset holds r h = ap (λ b. member b (r % 8)) (holds (r / 8) (omega arith)) ∙ row_in_byte w r h

pub put_at_holds : (part buffer : List ℕ) (offset k : ℕ) → offset ≤ length buffer → k < length part → get_or (put_at offset part buffer) (offset + k) 0 ≡ get_or part k 0
put_at_holds part buffer offset k room h =
    get_or-append_right (take offset buffer) (part ++ drop (offset + length part) buffer) offset (offset + k) 0 (length-take-le offset buffer room) (omega arith)
    ∙ ap (λ j. get_or (part ++ drop (offset + length part) buffer) j 0) (omega arith)
    ∙ get_or_append_left part (drop (offset + length part) buffer) 0 k h

-- what a write to a part of the buffer leaves
pub part_written : (a k : ℕ) (buffer part : List ℕ) → k ≡ length part → put_mid a k buffer part ≡ put_at a part buffer
part_written a k buffer part e = ap (λ rest. take a buffer ++ (part ++ rest)) (drop-drop k a buffer ∙ ap (λ n. drop (a + n) buffer) e)

-- one byte on is a division by 256
second_byte : (w : ℕ) → w / 256 / 256 ≡ w / 65536
second_byte w = div-div-eq-div-mul w 256 256

third_byte : (w : ℕ) → w / 65536 / 256 ≡ w / 16777216
third_byte w = div-div-eq-div-mul w 65536 256

-- the bytes of a word give the word
word_of_bytes : (w : ℕ) → w < 2 ^ 32 → w % 256 + w / 256 % 256 * 256 + w / 65536 % 256 * 65536 + w / 16777216 % 256 * 16777216 ≡ w
word_of_bytes w h = omega (arith, second_byte w, third_byte w, div_below w 16777216 256 (omega arith) h)

-- and a word that is written is what is read there
pub put_at_word : (w : ℕ) (buffer : List ℕ) (offset : ℕ) → offset ≤ length buffer → w < 2 ^ 32 → trigger_word (put_at offset (trigger_bytes w) buffer) offset ≡ w
put_at_word w buffer offset room h =
    (λ i. first i + holds 1 (omega arith) i * 256 + holds 2 (omega arith) i * 65536 + holds 3 (omega arith) i * 16777216) ∙ word_of_bytes w h
  where
    holds : (k : ℕ) → k < 4 → get_or (put_at offset (trigger_bytes w) buffer) (offset + k) 0 ≡ get_or (trigger_bytes w) k 0
    holds k in_four = put_at_holds (trigger_bytes w) buffer offset k room in_four

    first : get_or (put_at offset (trigger_bytes w) buffer) offset 0 ≡ w % 256
    first = ap (λ n. get_or (put_at offset (trigger_bytes w) buffer) n 0) (sym (add-zero offset)) ∙ holds 0 (omega arith)

-- four bytes give the word that has them
bytes_of_word : (a b c d : ℕ) → a < 256 → b < 256 → c < 256 → d < 256 → trigger_bytes (a + b * 256 + c * 65536 + d * 16777216) ≡ a ∷ b ∷ c ∷ d ∷ []
bytes_of_word a b c d ha hb hc hd =
    let w = a + b * 256 + c * 65536 + d * 16777216 in
    let low : w ≡ (b + c * 256 + d * 65536) * 256 + a = omega arith in
    let mid : b + c * 256 + d * 65536 ≡ (c + d * 256) * 256 + b = omega arith in
    let top : c + d * 256 ≡ d * 256 + c = omega arith in
    let one : w / 256 ≡ b + c * 256 + d * 65536 = ap (λ n. n / 256) low ∙ digits_div _ ha in
    let two : w / 65536 ≡ c + d * 256 = sym (second_byte w) ∙ ap (λ n. n / 256) (one ∙ mid) ∙ digits_div _ hb in
    let three : w / 16777216 ≡ d = sym (third_byte w) ∙ ap (λ n. n / 256) (two ∙ top) ∙ digits_div _ hc in
    let first : w % 256 ≡ a = ap (λ n. n % 256) low ∙ digits_mod (b + c * 256 + d * 65536) ha in
    let second : w / 256 % 256 ≡ b = ap (λ n. n % 256) (one ∙ mid) ∙ digits_mod (c + d * 256) hb in
    let third : w / 65536 % 256 ≡ c = ap (λ n. n % 256) (two ∙ top) ∙ digits_mod d hc in
    let fourth : w / 16777216 % 256 ≡ d = ap (λ n. n % 256) three ∙ mod-eq_of_lt hd in
    λ i. first i ∷ second i ∷ third i ∷ fourth i ∷ []

-- the four bytes from an offset on
abbrev four_at : List ℕ → ℕ → List ℕ
four_at buffer offset = get_or buffer offset 0 ∷ get_or buffer (offset + 1) 0 ∷ get_or buffer (offset + 2) 0 ∷ get_or buffer (offset + 3) 0 ∷ []

four_is : (buffer : List ℕ) (offset k : ℕ) → k < 4 → get_or buffer (offset + k) 0 ≡ get_or (four_at buffer offset) k 0
four_is buffer offset zero h = ap (λ n. get_or buffer n 0) (add-zero offset)
four_is buffer offset (suc zero) h = refl
four_is buffer offset (suc (suc zero)) h = refl
four_is buffer offset (suc (suc (suc zero))) h = refl
four_is buffer offset (suc (suc (suc (suc k)))) h = absurd (omega arith)

-- what stands there already, put there again
put_at_same : (buffer : List ℕ) (offset : ℕ) → offset + 4 ≤ length buffer → put_at offset (four_at buffer offset) buffer ≡ buffer
put_at_same buffer offset room =
    let second : drop (offset + 1) buffer ≡ get_or buffer (offset + 1) 0 ∷ drop (offset + 2) buffer = next 1 (omega arith) in
    let third : drop (offset + 2) buffer ≡ get_or buffer (offset + 2) 0 ∷ drop (offset + 3) buffer = next 2 (omega arith) in
    let fourth : drop (offset + 3) buffer ≡ get_or buffer (offset + 3) 0 ∷ drop (offset + 4) buffer = next 3 (omega arith) in
    let first = drop_more buffer offset 0 (omega arith) in
    let rest : get_or buffer offset 0 ∷ get_or buffer (offset + 1) 0 ∷ get_or buffer (offset + 2) 0 ∷ get_or buffer (offset + 3) 0 ∷ drop (offset + 4) buffer ≡ drop offset buffer = cc in
    ap (λ xs. take offset buffer ++ xs) rest ∙ take-append-drop offset buffer
  where
    next : (k : ℕ) → offset + k < length buffer → drop (offset + k) buffer ≡ get_or buffer (offset + k) 0 ∷ drop (offset + (k + 1)) buffer
    next k h = drop_more buffer (offset + k) 0 h ∙ ap (λ n. get_or buffer (offset + k) 0 ∷ drop n buffer) (add_assoc offset k 1)

module _ (buffer : List ℕ) (offset : ℕ) (bytes : (i : ℕ) → get_or buffer i 0 < 256) where
  bytes_there : trigger_bytes (trigger_word buffer offset) ≡ four_at buffer offset
  bytes_there = bytes_of_word _ _ _ _ (bytes offset) (bytes (offset + 1)) (bytes (offset + 2)) (bytes (offset + 3))

  -- the word that is read names the rows that the bytes name
  pub read_names : NamedIn (trigger_word buffer offset) buffer offset
  read_names = named_by_bytes _ buffer offset (λ k h. four_is buffer offset k h ∙ ap (λ xs. get_or xs k 0) (sym bytes_there))

  -- and writes the same bytes
  pub read_writes_back : offset + 4 ≤ length buffer → put_at offset (trigger_bytes (trigger_word buffer offset)) buffer ≡ buffer
  read_writes_back room = ap (λ part. put_at offset part buffer) bytes_there ∙ put_at_same buffer offset room
