-- A line that is read is the spelling of what it says. Assumes nothing.
use Rattle.std.proofs.Common.{◌≡◌, ℕ, suc, ◌+◌, ◌^◌, ◌<◌, ◌≤◌, Bool, true, false, cond, not, leb, List, [], ◌∷◌, ◌++◌, length, get_or, Some, None, decimal, Option, sym, refl, ap, ◌∙◌, inl, inr, arith}
use Rattle.std.specs.Int.{IsInRange}
use Rattle.std.specs.List.{AllByRecursion}
use Rattle.std.specs.Str.{bytes_eq}
use Rattle.std.proofs.lemmas.Fmt.{decimal-digits_value, digits_value-decimal, digits_decimal, first_decimal, decimal_nonempty, decimal_digit}
use Rattle.std.proofs.lemmas.Slice.Eq.{bytes_eq-Decides}
use Rattle.std.proofs.lemmas.Str.Parse.{IsNumeralModel, IsDigitsTest, FoldsDigits, numerals_by_fold}
use Rattle.std.proofs.lemmas.Bool.{cond-true, cond-false, cases_Bool, cases_eq, and_parts, and_from, not-true, not_from_false, leb-true, le-leb, eqb-false, ne_eqb, both_ways}
use Rattle.std.proofs.lemmas.Bool.Decides.{nat_tests}
use Rattle.lines.specs.declared.sign.Sign.{Sign}
use Rattle.lines.specs.declared.sign.Sign.TheVariants.{Letter, Digit}
use Rattle.lines.specs.Signs.{sign_of, ends_part}
use Rattle.lines.specs.Numbers.{value_after, value, needless, in_range}
use Rattle.lines.specs.Parts.{Placed, placed, longer, parts}
use Rattle.lines.specs.Names.{named}
use Rattle.lines.specs.Forms.{is_number}
use Rattle.lines.specs.Grammar.{Only, IsWord, IsNumber, IsItem, closing}
use Rattle.lines.proofs.Walks.{none≢some, some_same}

-- the shelf's lemmas on decimals, for our digits
digit_in : (b : ℕ) → sign_of b ≡ Digit → IsInRange 48 57 b
digit_in b e = grind (arith, nat_tests)

in_digit : (b : ℕ) → IsInRange 48 57 b → sign_of b ≡ Digit
in_digit b e = grind (arith, nat_tests)

tells_only : IsDigitsTest (Only Digit)
tells_only =
    record { empty = tt; parts = λ c cs h. (digit_in c h.0, h.1); more = λ c cs is h. (in_digit c is, h) }

folds_value : FoldsDigits value_after
folds_value = record { empty = λ n. refl; more = λ n c cs is. refl }

pub own : IsNumeralModel (Only Digit) value
own = numerals_by_fold (Only Digit) tells_only value_after folds_value

-- texts as parts, one space or bracket after each
abbrev pub spread : ℕ → List (List ℕ) → List Placed
spread p [] = []
spread p (t ∷ ts) = placed p t ∷ spread (p + length t + 1) ts

-- bytes of one sign, which does not end a part, are one part
one_part : (s : Sign) → ends_part s ≡ false → (w : List ℕ) (p b : ℕ) (rest : List ℕ) → Only s w → ends_part (sign_of b) ≡ true → parts p (w ++ (b ∷ rest)) ≡ placed p w ∷ parts (p + length w + 1) rest
one_part s on [] p b rest only over =
    cond-true _ _ _ over ∙ ap (λ q. placed p [] ∷ parts q rest) (let e : p + 1 ≡ p + 0 + 1 = omega arith in e)
one_part s on (c ∷ w) p b rest only over =
    cond-false _ _ _ (ap ends_part only.0 ∙ on)
    ∙ ap (longer p c) (one_part s on w (p + 1) b rest only.1 over)
    ∙ ap (λ q. placed p (c ∷ w) ∷ parts q rest) (let e : p + 1 + length w + 1 ≡ p + suc (length w) + 1 = omega arith in e)

part_item : (w : List ℕ) (p b : ℕ) (rest : List ℕ) → IsItem w → ends_part (sign_of b) ≡ true → parts p (w ++ (b ∷ rest)) ≡ placed p w ∷ parts (p + length w + 1) rest
part_item w p b rest (inl is) over = one_part Letter refl w p b rest is.1 over
part_item w p b rest (inr is) over = one_part Digit refl w p b rest is.1 over

-- the parts of a well-shaped line
pub parts_of : (w : List ℕ) (ts : List (List ℕ)) (p : ℕ) → IsItem w → AllByRecursion IsItem ts → parts p (w ++ closing ts) ≡ spread p (w ∷ ts)
parts_of w [] p is all = part_item w p 41 [] is refl
parts_of w (t ∷ ts) p is all =
    part_item w p 32 (t ++ closing ts) is refl ∙ ap (λ l. placed p w ∷ l) (parts_of t ts (p + length w + 1) all.0 all.1)

-- a name that was found is spelled so
pub named_text : {X : Type 0} (text : X → List ℕ) (t : List ℕ) (xs : List X) (x : X) → named text t xs ≡ Some x → t ≡ text x
named_text text t [] x e = absurd (none≢some x e)
named_text text t (y ∷ ys) x e =
    elim (cases_Bool (bytes_eq t (text y))) [
      | inl so ↦ (bytes_eq-Decides t (text y)).0 so ∙ ap text (some_same y x (sym (cond-true _ _ _ so) ∙ e))
      | inr so ↦ named_text text t ys x (sym (cond-false _ _ _ so) ∙ e)
    ]

-- a test that passed
pub cond_none : (b : Bool) (o : Option ℕ) (x : ℕ) → cond b o (Some x) ≡ None → (b ≡ true) × (o ≡ None)
cond_none true o x e = (refl, e)
cond_none false o x e = absurd (none≢some x (sym e))

needless_short : (t : List ℕ) → needless t ≡ false → 0 < length t → get_or t 0 0 ≡ 48 → length t ≡ 1
needless_short [] e some zero_first = absurd (omega arith)
needless_short (b ∷ []) e some zero_first = refl
needless_short (b ∷ c ∷ bs) e some zero_first = absurd (eqb-false b 48 e zero_first)

short_needless : (t : List ℕ) → (get_or t 0 0 ≡ 48 → length t ≡ 1) → needless t ≡ false
short_needless [] h = refl
short_needless (b ∷ []) h = refl
short_needless (b ∷ c ∷ bs) h = ne_eqb b 48 (λ e. let z = h e in omega arith)

pub letter_no_number : (t : List ℕ) → IsWord t → is_number t ≡ false
letter_no_number [] is = refl
letter_no_number (b ∷ bs) is = let h = is.1.0 in grind (arith, nat_tests)

pub number_is : (t : List ℕ) → IsNumber t → is_number t ≡ true
number_is [] is = absurd (omega (arith, is.0))
number_is (b ∷ bs) is = let h = is.1.0 in grind (arith, nat_tests)

-- a number in range is written as its decimal
pub decimal_back : (most : ℕ) (t : List ℕ) → most < 2 ^ 64 → IsItem t → is_number t ≡ true → in_range most t ≡ true → decimal (value t) ≡ t
decimal_back most t fits (inl w) is ok = absurd (both_ways (is_number t) (letter_no_number t w) is)
decimal_back most t fits (inr n) is ok =
    let h = and_parts (not (needless t)) (leb (value t) most) ok in
    decimal-digits_value own t n.1 n.0 (needless_short t (not-true (needless t) h.0) n.0) (omega (arith, leb-true (value t) most h.1))

-- the decimal of a number is in range
pub decimal_fits : (most n : ℕ) → n ≤ most → n < 2 ^ 64 → IsNumber (decimal n) × (is_number (decimal n) ≡ true) × (in_range most (decimal n) ≡ true)
decimal_fits most n le fits =
    let number : IsNumber (decimal n) = (decimal_nonempty n fits, digits_decimal own n fits) in
    let first : get_or (decimal n) 0 0 ≡ 48 → length (decimal n) ≡ 1 = λ e. elim (cases_eq n 0) [
      | inl none ↦ ap (λ m. length (decimal m)) none ∙ ap length (decimal_digit 0 (omega arith))
      | inr some ↦ absurd (let h = first_decimal n (omega arith) fits in omega arith)
    ] in
    let small : leb (value (decimal n)) most ≡ true = le-leb _ _ (omega (arith, digits_value-decimal own n fits)) in
    (number, number_is (decimal n) number, and_from _ _ (not_from_false _ (short_needless (decimal n) first)) small)
