-- The texts of answers. Assumes nothing.
use Rattle.std.proofs.Common.{◌≡◌, ℕ, ◌+◌, ◌*◌, ◌/◌, ◌%◌, ◌<◌, ◌≤◌, true, refl, List, [], ◌∷◌, ◌++◌, length, get_or, drop, codes, decimal, sym, ap, ◌∙◌, subst, Bor, arith, length-append, ◌⊎◌, inl, inr}
use Rattle.std.specs.Char.{is_ascii}
use Rattle.std.specs.List.{list_all}
use Rattle.std.specs.Str.{IsAscii}
use Rattle.std.proofs.lemmas.Str.{IsAscii-append}
use Rattle.std.proofs.lemmas.Str.Ascii.{IsAscii-cons, IsAscii-nil}
use Rattle.std.proofs.lemmas.Fmt.{IsAscii-decimal, length-decimal-le, decimal_digit, decimal_step}
use Rattle.std.proofs.lemmas.Bool.{and_parts}
use Rattle.std.proofs.lemmas.Bool.Decides.{nat_tests}
use Rattle.std.proofs.lemmas.List.Folds.{list_all-append}
use Rattle.bus.specs.Triggers.{trigger_bytes}
use Rattle.bus.specs.Refusals.{told}
use Rattle.bus.specs.declared.refusal.Refusal.{Refusal}
use Rattle.bus.specs.declared.refusal.Refusal.TheVariants.{BadSign, BadItem, BadNumber}
use Rattle.std.proofs.lemmas.List.{at_drop_more}
use Rattle.text.specs.Texts.{grown}
use Rattle.text.proofs.Grown.{pushed}
use Rattle.lines.specs.declared.fault.Fault.{Fault}
use Rattle.session.specs.declared.answer.Answer.{Answer}
use Rattle.session.specs.declared.answer.Answer.TheVariants.{Refused}
use Rattle.session.specs.Printed.{hex_digit, hex_byte, printed, refused, sent, worded, words, AreFit, IsShort}

-- what holds of the text of the case holds of what is printed for the answer
pub in_case : (Holds : List ℕ → Type 0) (a : Answer) (fault : Fault) (refusal : Refusal)
    → a ≡ Refused fault → fault.refusal ≡ refusal → Holds (refused fault.line refusal) → Holds (printed a)
in_case Holds a fault refusal whole is = subst Holds (sym (ap printed whole ∙ ap (refused fault.line) is))

-- a number behind its words is the front of what is left
pub worded_more : (d : Bor (List ℕ) × ℕ) (ps : List (Bor (List ℕ) × ℕ)) (end : List ℕ) (i : ℕ) (text between after : List ℕ)
    → i < length ps → between ≡ grown 128 text (get_or ps i d).0.now → after ≡ grown 128 between (decimal (get_or ps i d).1)
    → grown 128 after (worded (drop (i + 1) ps) end) ≡ grown 128 text (worded (drop i ps) end)
worded_more d ps end i text between after inside first second =
    let p = get_or ps i d in
    let rest = worded (drop (i + 1) ps) end in
    pushed 128 between (decimal p.1) after rest second
    ∙ pushed 128 text p.0.now between (decimal p.1 ++ rest) first
    ∙ ap (grown 128 text) (sym (at_drop_more (λ qs. worded qs end) ps i d inside))

worded_length : (ps : List (Bor (List ℕ) × ℕ)) (end : List ℕ) → AreFit ps → length (worded ps end) ≤ length (words ps end) + 20 * length ps
worded_length [] end fit = omega arith
worded_length (p ∷ ps) end fit =
    omega (
      arith,
      worded_length ps end fit.1,
      length-decimal-le 20 p.1 (omega arith) (omega (arith, fit.0)) fit.0,
      length-append p.0.now (decimal p.1 ++ worded ps end),
      length-append (decimal p.1) (worded ps end),
      length-append p.0.now (words ps end),
    )

pub worded_short : (ps : List (Bor (List ℕ) × ℕ)) (end : List ℕ) → IsShort ps end → length (worded ps end) < 128
worded_short ps end (fit, three, few, _) =
    omega (arith, worded_length ps end fit, three, few)

plain_ascii : (bs : List ℕ) → list_all is_ascii bs ≡ true → IsAscii bs
plain_ascii [] h = IsAscii-nil
plain_ascii (b ∷ bs) h =
    let both = and_parts (is_ascii b) (list_all is_ascii bs) h in
    IsAscii-cons b bs (grind (arith, nat_tests, both.0)) (plain_ascii bs both.1)

all_ascii : (ps : List (Bor (List ℕ) × ℕ)) (end : List ℕ) → AreFit ps → list_all is_ascii (words ps end) ≡ true → IsAscii (worded ps end)
all_ascii [] end fit plain = plain_ascii end plain
all_ascii (p ∷ ps) end fit plain =
    let text = p.0.now in
    let both = and_parts (list_all is_ascii text) _ (sym (list_all-append is_ascii text (words ps end)) ∙ plain) in
    IsAscii-append text _ (plain_ascii text both.0) (IsAscii-append (decimal p.1) _ (IsAscii-decimal p.1 fit.0) (all_ascii ps end fit.1 both.1))

pub worded_ascii : (ps : List (Bor (List ℕ) × ℕ)) (end : List ℕ) → IsShort ps end → IsAscii (worded ps end)
worded_ascii ps end (fit, _, _, plain) = all_ascii ps end fit plain

-- the numbers of the faults of a text
teen : (n d : ℕ) → d < 6 → n ≡ 10 + d → decimal n ≡ 49 ∷ (48 + d) ∷ []
teen n d small is =
    let one : n / 10 ≡ 1 = omega (arith, is) in
    let last : n % 10 ≡ d = omega (arith, is) in
    decimal_step n (omega (arith, is)) (omega (arith, is))
    ∙ (λ i. decimal (one i) ++ (48 + last i) ∷ [])
    ∙ ap (λ bs. bs ++ (48 + d) ∷ []) (decimal_digit 1 (omega arith))

abbrev behind : ℕ → ℕ → List ℕ
behind line place = codes " (line " ++ (decimal line ++ (codes ") (place " ++ (decimal place ++ codes "))")))

-- a fault of a text by its number, line and place
abbrev pub located : ℕ → ℕ → ℕ → List ℕ
located number line place = codes "(fault " ++ (decimal number ++ behind line place)

-- whichever of the three it is, it is told so
pub located_is : (line place : ℕ) (refusal : Refusal)
    → (refusal ≡ BadSign place) ⊎ ((refusal ≡ BadItem place) ⊎ (refusal ≡ BadNumber place))
    → located (told refusal).number line place ≡ refused line refusal
located_is line place refusal which =
    let begun : List ℕ → List ℕ = λ digits. codes "(fault " ++ (digits ++ behind line place) in
    let number : Refusal → List ℕ = λ r. located (told r).number line place in
    elim which [
      | inl is ↦ ap number is ∙ ap begun (teen 13 3 (omega arith) refl) ∙ sym (ap (refused line) is)
      | inr (inl is) ↦ ap number is ∙ ap begun (teen 14 4 (omega arith) refl) ∙ sym (ap (refused line) is)
      | inr (inr is) ↦ ap number is ∙ ap begun (teen 15 5 (omega arith) refl) ∙ sym (ap (refused line) is)
    ]

-- the digits of bytes, each behind a space, and the closing bracket
abbrev pub digits : List ℕ → List ℕ
digits [] = 41 ∷ []
digits (b ∷ bs) = 32 ∷ (hex_byte b ++ digits bs)

abbrev AreBytes : List ℕ → Type 0
AreBytes [] = Unit {0}
AreBytes (b ∷ bs) = (b < 256) × AreBytes bs

digit_below : (n : ℕ) → n < 16 → hex_digit n < 128
digit_below n h = grind (arith, nat_tests)

more_digits : (b : ℕ) (text : List ℕ) → b < 256 → IsAscii text → IsAscii (32 ∷ (hex_byte b ++ text))
more_digits b text small plain =
    let low = IsAscii-cons (hex_digit (b % 16)) text (digit_below (b % 16) (omega arith)) plain in
    let high = IsAscii-cons (hex_digit (b / 16)) (hex_digit (b % 16) ∷ text) (digit_below (b / 16) (omega arith)) low in
    IsAscii-cons 32 (hex_byte b ++ text) (omega arith) high

digits_ascii : (bs : List ℕ) → AreBytes bs → IsAscii (digits bs)
digits_ascii [] small = IsAscii-cons 41 [] (omega arith) IsAscii-nil
digits_ascii (b ∷ bs) small = more_digits b (digits bs) small.0 (digits_ascii bs small.1)

pub sent_ascii : (w : ℕ) → IsAscii (sent w)
sent_ascii w =
    IsAscii-append (codes "(send") (digits (trigger_bytes w)) (plain_ascii (codes "(send") refl) (digits_ascii (trigger_bytes w) (omega arith, (omega arith, (omega arith, (omega arith, tt)))))
