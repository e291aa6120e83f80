-- A line is well shaped just where no sign is misplaced. Assumes nothing.
use Rattle.std.proofs.Common.{◌≡◌, ℕ, suc, ◌+◌, ◌<◌, ◌≤◌, true, false, cond, List, [], ◌∷◌, ◌++◌, length, get_or, take, Some, None, Option, sym, refl, ap, ◌∙◌, subst, inl, inr, append_assoc, arith}
use Rattle.std.specs.List.{AllByRecursion}
use Rattle.std.proofs.lemmas.List.{take_more}
use Rattle.std.proofs.lemmas.Bool.Decides.{nat_tests}
use Rattle.lines.specs.declared.sign.Sign.{Sign}
use Rattle.lines.specs.declared.sign.Sign.TheVariants.{Letter, Digit, Space, Open, Close, Other}
use Rattle.lines.specs.declared.shape.Stage.{Stage}
use Rattle.lines.specs.declared.shape.Stage.TheVariants.{Opening, WordDue, InWord, ItemDue, InNumber, Closed}
use Rattle.lines.specs.Signs.{sign_of}
use Rattle.lines.specs.Shapes.{step, closed, misplaced}
use Rattle.lines.specs.Grammar.{Only, IsWord, IsItem, closing, WellShaped, FirstBad}

-- where a line is at fault whose sign at this place leads to such a stage
abbrev onward : ℕ → List ℕ → Option Stage → Option ℕ
onward at bs o = elim o [ None ↦ Some at | Some next ↦ misplaced next (at + 1) bs ]

-- no fault from this stage on, wherever it begins
abbrev Good : Stage → List ℕ → Type 0
Good stage bs = (p : ℕ) → misplaced stage p bs ≡ None

-- one sign that can follow
good_step : (stage next : Stage) (b : ℕ) (bs : List ℕ) → step stage (sign_of b) ≡ Some next → Good next bs → Good stage (b ∷ bs)
good_step stage next b bs e h p = ap (onward p bs) e ∙ h (p + 1)

by_sign : (stage next : Stage) (s : Sign) (b : ℕ) (bs : List ℕ) → sign_of b ≡ s → step stage s ≡ Some next → Good next bs → Good stage (b ∷ bs)
by_sign stage next s b bs is e = good_step stage next b bs (ap (step stage) is ∙ e)

letters_good : (w rest : List ℕ) → Only Letter w → Good InWord rest → Good InWord (w ++ rest)
letters_good [] rest each h = h
letters_good (b ∷ w) rest each h = by_sign InWord InWord Letter b (w ++ rest) each.0 refl (letters_good w rest each.1 h)

digits_good : (w rest : List ℕ) → Only Digit w → Good InNumber rest → Good InNumber (w ++ rest)
digits_good [] rest each h = h
digits_good (b ∷ w) rest each h = by_sign InNumber InNumber Digit b (w ++ rest) each.0 refl (digits_good w rest each.1 h)

item_good : (t rest : List ℕ) → IsItem t → Good InWord rest → Good InNumber rest → Good ItemDue (t ++ rest)
item_good [] rest (inl w) h k = absurd (omega (arith, w.0))
item_good [] rest (inr n) h k = absurd (omega (arith, n.0))
item_good (b ∷ t) rest (inl w) h k = by_sign ItemDue InWord Letter b (t ++ rest) w.1.0 refl (letters_good t rest w.1.1 h)
item_good (b ∷ t) rest (inr n) h k = by_sign ItemDue InNumber Digit b (t ++ rest) n.1.0 refl (digits_good t rest n.1.1 k)

closing_good : (ts : List (List ℕ)) → AllByRecursion IsItem ts → Good InWord (closing ts) × Good InNumber (closing ts)
closing_good [] all = (λ p. refl, λ p. refl)
closing_good (t ∷ ts) all =
    let h = closing_good ts all.1 in
    let item = item_good t (closing ts) all.0 h.0 h.1 in
    (by_sign InWord ItemDue Space 32 (t ++ closing ts) refl refl item, by_sign InNumber ItemDue Space 32 (t ++ closing ts) refl refl item)

word_good : (w rest : List ℕ) → IsWord w → Good InWord rest → Good WordDue (w ++ rest)
word_good [] rest is h = absurd (omega (arith, is.0))
word_good (b ∷ w) rest is h = by_sign WordDue InWord Letter b (w ++ rest) is.1.0 refl (letters_good w rest is.1.1 h)

pub well_shaped_good : (line : List ℕ) → WellShaped line → Good Opening line
well_shaped_good line shape p =
    ap (misplaced Opening p) shape.whole
    ∙ by_sign Opening WordDue Open 40 (shape.word ++ closing shape.items) refl refl
    (word_good shape.word (closing shape.items) shape.is_word (closing_good shape.items shape.are_items).0) p

pub none≢some : {X : Type 0} (x : X) → None ≡ Some x → ⊥
none≢some x e = let z : ◌≡◌ {A = ℕ} 0 1 = cc in omega arith

pub some_same : {X : Type 0} (x y : X) → Some x ≡ Some y → x ≡ y
some_same x y e = cc

open_code : (b : ℕ) → sign_of b ≡ Open → b ≡ 40
open_code b e = grind (arith, nat_tests)

space_code : (b : ℕ) → sign_of b ≡ Space → b ≡ 32
space_code b e = grind (arith, nat_tests)

close_code : (b : ℕ) → sign_of b ≡ Close → b ≡ 41
close_code b e = grind (arith, nat_tests)

-- bytes that pass P, and then the rest of a line
pub record Then (P : List ℕ → Type 0) (bs : List ℕ) : Type 0 where
  pub front : List ℕ
  pub items : List (List ℕ)
  pub passes : P front
  pub are_items : AllByRecursion IsItem items
  pub whole : bs ≡ front ++ closing items

-- what is still to come at each stage
abbrev Due : Stage → List ℕ → Type 0
Due Opening bs = WellShaped bs
Due WordDue bs = Then IsWord bs
Due InWord bs = Then (Only Letter) bs
Due ItemDue bs = Then IsItem bs
Due InNumber bs = Then (Only Digit) bs
Due Closed bs = bs ≡ []

-- one more byte in front
more : {P Q : List ℕ → Type 0} (b : ℕ) (bs : List ℕ) → ((w : List ℕ) → P w → Q (b ∷ w)) → Then P bs → Then Q (b ∷ bs)
more b bs f h =
    record { front = b ∷ h.front; items = h.items; passes = f h.front h.passes; are_items = h.are_items; whole = ap (λ l. b ∷ l) h.whole }

-- a space, and an item
spaced : {P : List ℕ → Type 0} (b : ℕ) (bs : List ℕ) → P [] → sign_of b ≡ Space → Then IsItem bs → Then P (b ∷ bs)
spaced b bs none is h =
    record {
      front = [];
      items = h.front ∷ h.items;
      passes = none;
      are_items = (h.passes, h.are_items);
      whole = (λ i. space_code b is i ∷ h.whole i);
    }

-- the closing bracket
shut : {P : List ℕ → Type 0} (b : ℕ) (bs : List ℕ) → P [] → sign_of b ≡ Close → bs ≡ [] → Then P (b ∷ bs)
shut b bs none is e =
    record { front = []; items = []; passes = none; are_items = tt; whole = (λ i. close_code b is i ∷ e i) }

-- a sign that can follow, and what is due after it
due_step : (stage : Stage) (s : Sign) (next : Stage) (b : ℕ) (bs : List ℕ) → sign_of b ≡ s → step stage s ≡ Some next → Due next bs → Due stage (b ∷ bs)
due_step Opening Open next b bs is e due =
    let h = subst (λ n. Due n bs) (sym (some_same _ _ e)) due in
    record {
      word = h.front;
      items = h.items;
      is_word = h.passes;
      are_items = h.are_items;
      whole = (λ i. open_code b is i ∷ h.whole i);
    }
due_step Opening Letter next b bs is e due = absurd (none≢some _ e)
due_step Opening Digit next b bs is e due = absurd (none≢some _ e)
due_step Opening Space next b bs is e due = absurd (none≢some _ e)
due_step Opening Close next b bs is e due = absurd (none≢some _ e)
due_step Opening Other next b bs is e due = absurd (none≢some _ e)
due_step WordDue Letter next b bs is e due =
    more b bs (λ w h. (omega arith, (is, h))) (subst (λ n. Due n bs) (sym (some_same _ _ e)) due)
due_step WordDue Digit next b bs is e due = absurd (none≢some _ e)
due_step WordDue Space next b bs is e due = absurd (none≢some _ e)
due_step WordDue Open next b bs is e due = absurd (none≢some _ e)
due_step WordDue Close next b bs is e due = absurd (none≢some _ e)
due_step WordDue Other next b bs is e due = absurd (none≢some _ e)
due_step InWord Letter next b bs is e due = more b bs (λ w h. (is, h)) (subst (λ n. Due n bs) (sym (some_same _ _ e)) due)
due_step InWord Space next b bs is e due = spaced b bs tt is (subst (λ n. Due n bs) (sym (some_same _ _ e)) due)
due_step InWord Close next b bs is e due = shut b bs tt is (subst (λ n. Due n bs) (sym (some_same _ _ e)) due)
due_step InWord Digit next b bs is e due = absurd (none≢some _ e)
due_step InWord Open next b bs is e due = absurd (none≢some _ e)
due_step InWord Other next b bs is e due = absurd (none≢some _ e)
due_step ItemDue Letter next b bs is e due =
    more b bs (λ w h. inl (omega arith, (is, h))) (subst (λ n. Due n bs) (sym (some_same _ _ e)) due)
due_step ItemDue Digit next b bs is e due =
    more b bs (λ w h. inr (omega arith, (is, h))) (subst (λ n. Due n bs) (sym (some_same _ _ e)) due)
due_step ItemDue Space next b bs is e due = absurd (none≢some _ e)
due_step ItemDue Open next b bs is e due = absurd (none≢some _ e)
due_step ItemDue Close next b bs is e due = absurd (none≢some _ e)
due_step ItemDue Other next b bs is e due = absurd (none≢some _ e)
due_step InNumber Digit next b bs is e due = more b bs (λ w h. (is, h)) (subst (λ n. Due n bs) (sym (some_same _ _ e)) due)
due_step InNumber Space next b bs is e due = spaced b bs tt is (subst (λ n. Due n bs) (sym (some_same _ _ e)) due)
due_step InNumber Close next b bs is e due = shut b bs tt is (subst (λ n. Due n bs) (sym (some_same _ _ e)) due)
due_step InNumber Letter next b bs is e due = absurd (none≢some _ e)
due_step InNumber Open next b bs is e due = absurd (none≢some _ e)
due_step InNumber Other next b bs is e due = absurd (none≢some _ e)
due_step Closed Letter next b bs is e due = absurd (none≢some _ e)
due_step Closed Digit next b bs is e due = absurd (none≢some _ e)
due_step Closed Space next b bs is e due = absurd (none≢some _ e)
due_step Closed Open next b bs is e due = absurd (none≢some _ e)
due_step Closed Close next b bs is e due = absurd (none≢some _ e)
due_step Closed Other next b bs is e due = absurd (none≢some _ e)

-- a line that ends
due_end : (stage : Stage) (p : ℕ) → misplaced stage p [] ≡ None → Due stage []
due_end Opening p e = absurd (none≢some _ (sym e))
due_end WordDue p e = absurd (none≢some _ (sym e))
due_end InWord p e = absurd (none≢some _ (sym e))
due_end ItemDue p e = absurd (none≢some _ (sym e))
due_end InNumber p e = absurd (none≢some _ (sym e))
due_end Closed p e = refl

-- where no sign is misplaced, what is due comes
pub comes : (bs : List ℕ) (stage : Stage) (p : ℕ) → misplaced stage p bs ≡ None → Due stage bs
comes [] stage p e = due_end stage p e
comes (b ∷ bs) stage p e =
    elim (step stage (sign_of b)) as (λ o. step stage (sign_of b) ≡ o → onward p bs o ≡ None → Due stage (b ∷ bs)) [
      | None ↦ λ is f. absurd (none≢some _ (sym f))
      | Some next ↦ λ is f. due_step stage (sign_of b) next b bs refl is (comes bs next (p + 1) f)
    ] refl e

-- bytes that each stage can be closed with
abbrev rescue : Stage → List ℕ
rescue Opening = 40 ∷ 97 ∷ 41 ∷ []
rescue WordDue = 97 ∷ 41 ∷ []
rescue InWord = 41 ∷ []
rescue ItemDue = 97 ∷ 41 ∷ []
rescue InNumber = 41 ∷ []
rescue Closed = []

rescue_good : (stage : Stage) → Good stage (rescue stage)
rescue_good Opening p = refl
rescue_good WordDue p = refl
rescue_good InWord p = refl
rescue_good ItemDue p = refl
rescue_good InNumber p = refl
rescue_good Closed p = refl

-- the bytes w lead from one stage to another
abbrev Leads : Stage → List ℕ → Stage → Type 0
Leads from w to = (rest : List ℕ) (p : ℕ) → (q : ℕ) × (misplaced from p (w ++ rest) ≡ misplaced to q rest)

-- where the scan came to a halt: after the first k bytes
record Halted (from : Stage) (p : ℕ) (bs : List ℕ) (place : ℕ) : Type 0 where
  k : ℕ
  at : Stage
  is : place ≡ p + k
  inside : k ≤ length bs
  leads : Leads from (take k bs) at
  stuck : k < length bs → step at (sign_of (get_or bs k 0)) ≡ None

halts : (bs : List ℕ) (stage : Stage) (p place : ℕ) → misplaced stage p bs ≡ Some place → Halted stage p bs place
halts [] stage p place e =
    record {
      k = 0;
      at = stage;
      is = elim (closed stage) as (λ c. cond c None (Some p) ≡ Some place → place ≡ p + 0) [
        | true ↦ λ f. absurd (none≢some _ f)
        | false ↦ λ f. let h = some_same _ _ f in omega arith
      ] e;
      inside = omega arith;
      leads = λ rest q. (q, refl);
      stuck = λ lt. absurd (omega arith);
    }
halts (b ∷ bs) stage p place e =
    elim (step stage (sign_of b)) as (λ o. step stage (sign_of b) ≡ o → onward p bs o ≡ Some place → Halted stage p (b ∷ bs) place) [
      | None ↦ λ is f.
          record {
            k = 0;
            at = stage;
            is = (let h = some_same _ _ f in omega arith);
            inside = omega arith;
            leads = λ rest q. (q, refl);
            stuck = λ lt. is;
          }
      | Some next ↦ λ is f.
          let h = halts bs next (p + 1) place f in
          record {
            k = suc h.k;
            at = h.at;
            is = omega (arith, h.is);
            inside = omega (arith, h.inside);
            leads = λ rest q. let l = h.leads rest (q + 1) in (l.0, ap (onward q (take h.k bs ++ rest)) is ∙ l.1);
            stuck = λ lt. h.stuck (omega arith);
          }
    ] refl e

-- the place of a misplaced sign is the first that cannot follow
pub first_bad : (line : List ℕ) (place : ℕ) → misplaced Opening 0 line ≡ Some place → FirstBad line place
first_bad line place e =
    let h = halts line Opening 0 place e in
    let same : h.k ≡ place = omega (arith, h.is) in
    subst (FirstBad line) same (record {
      inside = h.inside;
      so_far =
          let l = h.leads (rescue h.at) 0 in
          (rescue h.at, comes (take h.k line ++ rescue h.at) Opening 0 (l.1 ∙ rescue_good h.at l.0));
      no_further = λ lt tail shape.
          let b = get_or line h.k 0 in
          let front : take (h.k + 1) line ++ tail ≡ take h.k line ++ (b ∷ tail) = ap (λ l. l ++ tail) (take_more line h.k 0 lt) ∙ append_assoc (take h.k line) (b ∷ []) tail in
          let l = h.leads (b ∷ tail) 0 in
          none≢some l.0
          (sym (well_shaped_good _ shape 0) ∙ ap (misplaced Opening 0) front ∙ l.1 ∙ ap (onward l.0 tail) (h.stuck lt));
      not_whole = λ shape. none≢some place (sym (well_shaped_good line shape 0) ∙ e);
    })
