-- The laws of reading. Assumes nothing.
use Rattle.std.proofs.Common.{◌≡◌, ℕ, ◌+◌, ◌-◌, ◌<◌, true, List, [], ◌∷◌, length, get_or, drop, is_some, Some, None, Ok, Err, decimal, Option, Result, unwrap_or, sym, refl, ap, ◌∙◌, subst, inl, inr, arith}
use Rattle.std.specs.List.{AllByRecursion}
use Rattle.std.proofs.lemmas.Fmt.{digits_value-decimal}
use Rattle.std.proofs.lemmas.Bool.{cond-true, both_ways}
use Rattle.bus.specs.declared.refusal.Refusal.{Refusal}
use Rattle.bus.specs.declared.refusal.Refusal.TheVariants.{
  RowAbove31,
  RowUsed,
  RowEmpty,
  OutOfRange,
  AboveWindow,
  RoundTooLong,
  Late,
  Unsettled,
  PlanLength,
  OffsetTooHigh,
  TooManyDataBytes,
  FrameTooLong,
  BadSign,
  BadItem,
  BadNumber,
  BufferTooShort,
}
use Rattle.bus.specs.Refusals.{Told, told, answered}
use Rattle.engine.specs.declared.row.Figures.{Figures}
use Rattle.lines.specs.declared.form.Form.{Form}
use Rattle.lines.specs.declared.form.Form.TheVariants as form
use Rattle.orders.specs.declared.selector.Selector.{Selector}
use Rattle.orders.specs.declared.selector.Selector.TheVariants.{RateMonotonic, DeadlineMonotonic, FixedPriority, EarliestDeadline}
use Rattle.lines.specs.declared.shape.Stage.TheVariants.{Opening}
use Rattle.lines.specs.declared.word.Word.{Word}
use Rattle.lines.specs.declared.word.Word.TheVariants.{Window, Policy, Drop, Next, Which, Frame, Add, Alter}
use Rattle.lines.specs.declared.word.Kind.{Kind}
use Rattle.lines.specs.declared.word.Kind.TheVariants.{Byte, HalfWord, PolicyName as Name}
use Rattle.lines.specs.Shapes.{misplaced}
use Rattle.lines.specs.Numbers.{value}
use Rattle.lines.specs.Parts.{Placed, parts}
use Rattle.lines.specs.Forms.{word_text, policy_text, policies, policy_named, words, word_named, kinds, is_number, takes, sound, misfit, unsound, front, behind, said, figures}
use Rattle.lines.specs.Reading.{bad_sign, bad_item, bad_number, unless, items_read, parts_read, reading}
use Rattle.lines.specs.Grammar.{IsWord, IsNumber, IsItem, line_of, WellShaped}
use Rattle.lines.specs.Spelling.{word_of, figure_texts, item_texts, spell, FiguresFit, InRange, OfKind, OfKinds, FitsForm}
use Rattle.lines.proofs.Order.{word_known, word_unknown, parts_known, parts_unknown, by_parts, answer_stands}
use Rattle.lines.proofs.Walks.{none≢some, well_shaped_good, comes}
use Rattle.lines.proofs.Spells.{own, spread, parts_of, named_text, cond_none, letter_no_number, number_is, decimal_back, decimal_fits}

err≢ok : (t : Told) (f : Form) → Err t ≡ Ok f → ⊥
err≢ok t f e = let z : ◌≡◌ {A = ℕ} 0 1 = cc in omega arith

-- an item as its kind writes it
abbrev shown : Kind → List ℕ → List ℕ
shown Byte t = decimal (value t)
shown HalfWord t = decimal (value t)
shown Name t = policy_text (unwrap_or (policy_named t) RateMonotonic)

abbrev shown_all : List Kind → List Placed → List (List ℕ)
shown_all [] ps = []
shown_all (k ∷ ks) ps = shown k (front ps).text ∷ shown_all ks (behind ps)

shown_back : (k : Kind) (t : List ℕ) → IsItem t → takes k t ≡ true → sound k t ≡ true → shown k t ≡ t
shown_back Byte t is fits ok = decimal_back 255 t (omega arith) is fits ok
shown_back HalfWord t is fits ok = decimal_back 65535 t (omega arith) is fits ok
shown_back Name t is fits ok =
    elim (policy_named t) as (λ o. policy_named t ≡ o → is_some o ≡ true → policy_text (unwrap_or o RateMonotonic) ≡ t) [
      | None ↦ λ e no_name. absurd (let z : ◌≡◌ {A = ℕ} 0 1 = cc in omega arith)
      | Some p ↦ λ e some. sym (named_text policy_text t policies p e)
    ] refl fits

-- items that fit are written as what they say
items_back : (end : ℕ) (ks : List Kind) (ts : List (List ℕ)) (q : ℕ) → AllByRecursion IsItem ts → misfit end ks (spread q ts) ≡ None → unsound ks (spread q ts) ≡ None → shown_all ks (spread q ts) ≡ ts
items_back end [] [] q all fit ok = refl
items_back end [] (t ∷ ts) q all fit ok = absurd (none≢some _ (sym fit))
items_back end (k ∷ ks) [] q all fit ok = absurd (none≢some _ (sym fit))
items_back end (k ∷ ks) (t ∷ ts) q all fit ok =
    let f = cond_none (takes k t) (misfit end ks (spread (q + length t + 1) ts)) q fit in
    let g = cond_none (sound k t) (unsound ks (spread (q + length t + 1) ts)) q ok in
    let here = shown_back k t all.0 f.0 g.0 in
    let rest = items_back end ks ts (q + length t + 1) all.1 f.1 g.1 in
    (λ i. here i ∷ rest i)

said_word : (word : Word) (ps : List Placed) → word_of (said word ps) ≡ word
said_word Window ps = refl
said_word Policy ps = refl
said_word Drop ps = refl
said_word Next ps = refl
said_word Which ps = refl
said_word Frame ps = refl
said_word Add ps = refl
said_word Alter ps = refl

said_items : (word : Word) (ps : List Placed) → item_texts (said word ps) ≡ shown_all (kinds word) ps
said_items Window ps = refl
said_items Policy ps = refl
said_items Drop ps = refl
said_items Next ps = refl
said_items Which ps = refl
said_items Frame ps = refl
said_items Add ps = refl
said_items Alter ps = refl

-- a well-shaped line with a known word
module _ (w : List ℕ) (ts : List (List ℕ)) (is : IsWord w) (all : AllByRecursion IsItem ts) where
  abbrev items : List Placed
  items = spread (1 + length w + 1) ts

  abbrev end : ℕ
  end = length (line_of w ts) - 1

  shape : WellShaped (line_of w ts)
  shape = record { word = w; items = ts; is_word = is; are_items = all; whole = refl }

  whole : parts 1 (drop 1 (line_of w ts)) ≡ spread 1 (w ∷ ts)
  whole = parts_of w ts 1 (inl is) all

  read_by_parts : reading (line_of w ts) ≡ parts_read end (spread 1 (w ∷ ts))
  read_by_parts = by_parts (line_of w ts) (well_shaped_good (line_of w ts) shape 0) ∙ ap (parts_read end) whole

  pub known : (word : Word) → word_named w ≡ Some word → reading (line_of w ts) ≡ unless bad_item (misfit end (kinds word) items) (items_read word items)
  known word found = read_by_parts ∙ parts_known (spread 1 (w ∷ ts)) end word (word_known (spread 1 (w ∷ ts)) word found)

  pub unknown : word_named w ≡ None → reading (line_of w ts) ≡ Err (bad_item 1)
  unknown none = read_by_parts ∙ parts_unknown (spread 1 (w ∷ ts)) end (bad_item 1) (word_unknown (spread 1 (w ∷ ts)) none)

  spelled_so : (f : Form) → reading (line_of w ts) ≡ Ok f → spell f ≡ line_of w ts
  spelled_so f e =
      elim (word_named w) as (λ o. word_named w ≡ o → spell f ≡ line_of w ts) [
        | None ↦ λ none. absurd (err≢ok (bad_item 1) f (sym (unknown none) ∙ e))
        | Some word ↦ λ found.
            let fit = answer_stands bad_item (misfit end (kinds word) items) (items_read word items) f (sym (known word found) ∙ e) in
            let ok = answer_stands bad_number (unsound (kinds word) items) (Ok (said word items)) f fit.1 in
            let told : said word items ≡ f = cc in
            let texts = said_items word items ∙ items_back end (kinds word) ts (1 + length w + 1) all fit.0 ok.0 in
            let name = ap word_text (said_word word items) ∙ sym (named_text word_text w words word found) in
            ap spell (sym told) ∙ (λ i. line_of (name i) (texts i))
      ] refl

-- a line that is read is the spelling of its form
pub spelled_back : (line : List ℕ) (f : Form) → reading line ≡ Ok f → spell f ≡ line
spelled_back line f e =
    let good = answer_stands bad_sign (misplaced Opening 0 line) (parts_read (length line - 1) (parts 1 (drop 1 line))) f e in
    let sh = comes line Opening 0 good.0 in
    spelled_so sh.word sh.items sh.is_word sh.are_items f (ap reading (sym sh.whole) ∙ e) ∙ sym sh.whole

-- items of the right kinds, in range
abbrev Fitting : List Kind → List (List ℕ) → Type 0
Fitting [] [] = Unit {0}
Fitting [] (t ∷ ts) = ⊥
Fitting (k ∷ ks) [] = ⊥
Fitting (k ∷ ks) (t ∷ ts) = (IsItem t × (takes k t ≡ true) × (sound k t ≡ true)) × Fitting ks ts

fitting_items : (ks : List Kind) (ts : List (List ℕ)) → Fitting ks ts → AllByRecursion IsItem ts
fitting_items [] [] h = tt
fitting_items [] (t ∷ ts) h = absurd h
fitting_items (k ∷ ks) [] h = absurd h
fitting_items (k ∷ ks) (t ∷ ts) h = (h.0.0, fitting_items ks ts h.1)

fitting_fits : (last : ℕ) (ks : List Kind) (ts : List (List ℕ)) (q : ℕ) → Fitting ks ts → (misfit last ks (spread q ts) ≡ None) × (unsound ks (spread q ts) ≡ None)
fitting_fits last [] [] q h = (refl, refl)
fitting_fits last [] (t ∷ ts) q h = absurd h
fitting_fits last (k ∷ ks) [] q h = absurd h
fitting_fits last (k ∷ ks) (t ∷ ts) q h =
    let rest = fitting_fits last ks ts (q + length t + 1) h.1 in
    (cond-true (takes k t) _ _ h.0.1 ∙ rest.0, cond-true (sound k t) _ _ h.0.2 ∙ rest.1)

byte_fits : (n : ℕ) → n < 256 → IsItem (decimal n) × (takes Byte (decimal n) ≡ true) × (sound Byte (decimal n) ≡ true)
byte_fits n lt = let h = decimal_fits 255 n (omega arith) (omega arith) in (inr h.0, h.1, h.2)

half_word_fits : (n : ℕ) → n < 65536 → IsItem (decimal n) × (takes HalfWord (decimal n) ≡ true) × (sound HalfWord (decimal n) ≡ true)
half_word_fits n lt = let h = decimal_fits 65535 n (omega arith) (omega arith) in (inr h.0, h.1, h.2)

policy_fits : (p : Selector) → IsItem (policy_text p) × (takes Name (policy_text p) ≡ true) × (sound Name (policy_text p) ≡ true)
policy_fits RateMonotonic = (inl (omega arith, (refl, (refl, tt))), refl, refl)
policy_fits DeadlineMonotonic = (inl (omega arith, (refl, (refl, tt))), refl, refl)
policy_fits FixedPriority = (inl (omega arith, (refl, (refl, tt))), refl, refl)
policy_fits EarliestDeadline = (inl (omega arith, (refl, (refl, (refl, tt)))), refl, refl)

pub word_is : (word : Word) → IsWord (word_text word) × (word_named (word_text word) ≡ Some word)
word_is Window = ((omega arith, (refl, (refl, (refl, (refl, (refl, (refl, tt))))))), refl)
word_is Policy = ((omega arith, (refl, (refl, (refl, (refl, (refl, (refl, tt))))))), refl)
word_is Drop = ((omega arith, (refl, (refl, (refl, (refl, tt))))), refl)
word_is Next = ((omega arith, (refl, (refl, (refl, (refl, tt))))), refl)
word_is Which = ((omega arith, (refl, (refl, (refl, (refl, (refl, tt)))))), refl)
word_is Frame = ((omega arith, (refl, (refl, (refl, (refl, (refl, tt)))))), refl)
word_is Add = ((omega arith, (refl, (refl, (refl, tt)))), refl)
word_is Alter = ((omega arith, (refl, (refl, (refl, (refl, (refl, tt)))))), refl)

figures_fit : (f : Figures) → FiguresFit f → Fitting (Byte ∷ Byte ∷ Byte ∷ Byte ∷ Byte ∷ []) (figure_texts f)
figures_fit f h =
    (byte_fits _ h.0, (byte_fits _ h.1, (byte_fits _ h.2, (byte_fits _ h.3, (byte_fits _ h.4, tt)))))

form_fits : (f : Form) → InRange f → Fitting (kinds (word_of f)) (item_texts f)
form_fits (form.Window n) h = (byte_fits n h, tt)
form_fits (form.Policy p) h = (policy_fits p, tt)
form_fits (form.Drop n) h = (byte_fits n h, tt)
form_fits (form.Next n) h = (byte_fits n h, tt)
form_fits form.Which h = tt
form_fits (form.Frame c d) h = (half_word_fits c h.0, (byte_fits d h.1, tt))
form_fits (form.Add row f) h = (byte_fits row h.0, figures_fit f h.1)
form_fits (form.Alter row f) h = (byte_fits row h.0, figures_fit f h.1)

byte_value : (n : ℕ) → n < 65536 → value (decimal n) ≡ n
byte_value n lt = digits_value-decimal own n (omega arith)

figures_said : (f : Figures) (q : ℕ) → FiguresFit f → figures (spread q (figure_texts f)) ≡ f
figures_said f q h = λ i.
    record {
      duration = byte_value f.duration (omega arith) i;
      period = byte_value f.period (omega arith) i;
      deadline = byte_value f.deadline (omega arith) i;
      phase = byte_value f.phase (omega arith) i;
      priority = byte_value f.priority (omega arith) i;
    }

policy_said : (p : Selector) → unwrap_or (policy_named (policy_text p)) RateMonotonic ≡ p
policy_said RateMonotonic = refl
policy_said DeadlineMonotonic = refl
policy_said FixedPriority = refl
policy_said EarliestDeadline = refl

form_said : (f : Form) (q : ℕ) → InRange f → said (word_of f) (spread q (item_texts f)) ≡ f
form_said (form.Window n) q h = ap (λ m. form.Window m) (byte_value n (omega arith))
form_said (form.Policy p) q h = ap (λ m. form.Policy m) (policy_said p)
form_said (form.Drop n) q h = ap (λ m. form.Drop m) (byte_value n (omega arith))
form_said (form.Next n) q h = ap (λ m. form.Next m) (byte_value n (omega arith))
form_said form.Which q h = refl
form_said (form.Frame c d) q h =
    let e = byte_value c (omega arith) in
    let g = byte_value d (omega arith) in
    (λ i. form.Frame (e i) (g i))
form_said (form.Add row f) q h =
    let e = byte_value row (omega arith) in
    let g = figures_said f (q + length (decimal row) + 1) h.1 in
    (λ i. form.Add (e i) (g i))
form_said (form.Alter row f) q h =
    let e = byte_value row (omega arith) in
    let g = figures_said f (q + length (decimal row) + 1) h.1 in
    (λ i. form.Alter (e i) (g i))

-- a form is read from its spelling
pub spelling_read : (f : Form) → InRange f → reading (spell f) ≡ Ok f
spelling_read f h =
    let word = word_of f in
    let w = word_text word in
    let ts = item_texts f in
    let fit = form_fits f h in
    let q = 1 + length w + 1 in
    let end_place = length (line_of w ts) - 1 in
    let ps = spread q ts in
    let both = fitting_fits end_place (kinds word) ts q fit in
    known w ts (word_is word).0 (fitting_items (kinds word) ts fit) word (word_is word).1
    ∙ ap (λ o. unless bad_item o (items_read word ps)) both.0
    ∙ ap (λ o. unless bad_number o (Ok (said word ps))) both.1
    ∙ ap (λ (g : Form). Ok g) (form_said f q h)

-- the number of a fault
abbrev number : Told → ℕ
number t = t.number

abbrev pub number_of : Result Form Told → ℕ
number_of (Ok f) = 0
number_of (Err t) = t.number

-- and its place
abbrev pub place_of : Result Form Told → ℕ
place_of (Ok f) = 0
place_of (Err t) = get_or t.values 0 0

-- a fault that comes after the shape is no bad sign
later : (o : Option ℕ) (p : Option ℕ) (f : Form) (place : ℕ) → unless bad_item o (unless bad_number p (Ok f)) ≡ Err (bad_sign place) → ⊥
later None None f place e = let n = ap number_of e in omega arith
later None (Some q) f place e = let n = ap number_of e in omega arith
later (Some q) p f place e = let n = ap number_of e in omega arith

later_fault : (last : ℕ) (ps : List Placed) (place : ℕ) → parts_read last ps ≡ Err (bad_sign place) → ⊥
later_fault last ps place e =
    elim (word_named (front ps).text) as (λ o. word_named (front ps).text ≡ o → ⊥) [
      | None ↦ λ none. let n = ap number_of (sym (parts_unknown ps last (bad_item 1) (word_unknown ps none)) ∙ e) in omega arith
      | Some word ↦ λ found.
          later (misfit last (kinds word) (behind ps)) (unsound (kinds word) (behind ps)) (said word (behind ps)) place
          (sym (parts_known ps last word (word_known ps word found)) ∙ e)
    ] refl

-- only a misplaced sign is told as a bad sign
pub bad_sign_found : (line : List ℕ) (place : ℕ) → reading line ≡ Err (bad_sign place) → misplaced Opening 0 line ≡ Some place
bad_sign_found line place e =
    elim (misplaced Opening 0 line) as (λ o. unless bad_sign o (parts_read (length line - 1) (parts 1 (drop 1 line))) ≡ Err (bad_sign place) → o ≡ Some place) [
      | None ↦ λ f. absurd (later_fault (length line - 1) (parts 1 (drop 1 line)) place f)
      | Some q ↦ λ f. ap (λ r. Some (place_of r)) f
    ] e

bad_sign_told : (e : Refusal) (place : ℕ) → told e ≡ told (BadSign place) → e ≡ BadSign place
bad_sign_told (BadSign q) place h = ap (λ t. BadSign (get_or t.values 0 0)) h
bad_sign_told RowAbove31 place h = absurd (let n = ap number h in omega arith)
bad_sign_told RowUsed place h = absurd (let n = ap number h in omega arith)
bad_sign_told RowEmpty place h = absurd (let n = ap number h in omega arith)
bad_sign_told (OutOfRange field) place h = absurd (let n = ap number h in omega arith)
bad_sign_told (AboveWindow row) place h = absurd (let n = ap number h in omega arith)
bad_sign_told RoundTooLong place h = absurd (let n = ap number h in omega arith)
bad_sign_told (Late row cycle) place h = absurd (let n = ap number h in omega arith)
bad_sign_told Unsettled place h = absurd (let n = ap number h in omega arith)
bad_sign_told PlanLength place h = absurd (let n = ap number h in omega arith)
bad_sign_told OffsetTooHigh place h = absurd (let n = ap number h in omega arith)
bad_sign_told TooManyDataBytes place h = absurd (let n = ap number h in omega arith)
bad_sign_told FrameTooLong place h = absurd (let n = ap number h in omega arith)
bad_sign_told (BadItem q) place h = absurd (let n = ap number h in omega arith)
bad_sign_told (BadNumber q) place h = absurd (let n = ap number h in omega arith)
bad_sign_told (BufferTooShort q) place h = absurd (let n = ap number h in omega arith)

pub answered_bad_sign : (r : Result Form Refusal) (place : ℕ) → answered r ≡ Err (bad_sign place) → r ≡ Err (BadSign place)
answered_bad_sign (Ok f) place h = absurd (err≢ok (bad_sign place) f (sym h))
answered_bad_sign (Err e) place h = let same : told e ≡ told (BadSign place) = cc in ap (λ x. Err x) (bad_sign_told e place same)

pub answered_ok : (r : Result Form Refusal) (f : Form) → answered r ≡ Ok f → r ≡ Ok f
answered_ok (Ok x) f h = let same : x ≡ f = cc in ap (λ y. Ok y) same
answered_ok (Err e) f h = absurd (err≢ok (told e) f h)

pub shaped_else : (line : List ℕ) → ((place : ℕ) → reading line ≡ Err (bad_sign place) → ⊥) → WellShaped line
shaped_else line none =
    elim (misplaced Opening 0 line) as (λ o. misplaced Opening 0 line ≡ o → WellShaped line) [
      | None ↦ λ e. comes line Opening 0 e
      | Some place ↦ λ e. absurd (none place (ap (λ o. unless bad_sign o (parts_read (length line - 1) (parts 1 (drop 1 line)))) e))
    ] refl

pub of_kind_takes : (k : Kind) (t : List ℕ) → OfKind k t → IsItem t × (takes k t ≡ true)
of_kind_takes Byte t h = (inr h, number_is t h)
of_kind_takes HalfWord t h = (inr h, number_is t h)
of_kind_takes Name t h =
    let fits = policy_fits h.0 in
    subst (λ u. IsItem u × (takes Name u ≡ true)) (sym h.1) (fits.0, fits.1)

takes_number : (t : List ℕ) → IsItem t → is_number t ≡ true → IsNumber t
takes_number t (inl w) is = absurd (both_ways (is_number t) (letter_no_number t w) is)
takes_number t (inr n) is = n

pub takes_of_kind : (k : Kind) (t : List ℕ) → IsItem t → takes k t ≡ true → OfKind k t
takes_of_kind Byte t is fits = takes_number t is fits
takes_of_kind HalfWord t is fits = takes_number t is fits
takes_of_kind Name t is fits =
    elim (policy_named t) as (λ o. policy_named t ≡ o → is_some o ≡ true → (p : Selector) × (t ≡ policy_text p)) [
      | None ↦ λ e no_name. absurd (let z : ◌≡◌ {A = ℕ} 0 1 = cc in omega arith)
      | Some p ↦ λ e some. (p, named_text policy_text t policies p e)
    ] refl fits

pub of_kinds_fit : (last : ℕ) (ks : List Kind) (ts : List (List ℕ)) (q : ℕ) → OfKinds ks ts → AllByRecursion IsItem ts × (misfit last ks (spread q ts) ≡ None)
of_kinds_fit last [] [] q h = (tt, refl)
of_kinds_fit last [] (t ∷ ts) q h = absurd h
of_kinds_fit last (k ∷ ks) [] q h = absurd h
of_kinds_fit last (k ∷ ks) (t ∷ ts) q h =
    let here = of_kind_takes k t h.0 in
    let rest = of_kinds_fit last ks ts (q + length t + 1) h.1 in
    ((here.0, rest.0), cond-true (takes k t) _ _ here.1 ∙ rest.1)

pub fit_of_kinds : (last : ℕ) (ks : List Kind) (ts : List (List ℕ)) (q : ℕ) → AllByRecursion IsItem ts → misfit last ks (spread q ts) ≡ None → OfKinds ks ts
fit_of_kinds last [] [] q all fit = tt
fit_of_kinds last [] (t ∷ ts) q all fit = absurd (none≢some _ (sym fit))
fit_of_kinds last (k ∷ ks) [] q all fit = absurd (none≢some _ (sym fit))
fit_of_kinds last (k ∷ ks) (t ∷ ts) q all fit =
    let f = cond_none (takes k t) (misfit last ks (spread (q + length t + 1) ts)) q fit in
    (takes_of_kind k t all.0 f.0, fit_of_kinds last ks ts (q + length t + 1) all.1 f.1)

-- the items of a line that fits are not declined
pub no_item : (o : Option ℕ) (f : Form) (place : ℕ) → unless bad_number o (Ok f) ≡ Err (bad_item place) → ⊥
no_item None f place e = let n = ap number_of e in omega arith
no_item (Some q) f place e = let n = ap number_of e in omega arith

pub fits_no_bad_item : (line : List ℕ) (place : ℕ) → FitsForm line → reading line ≡ Err (bad_item place) → ⊥
fits_no_bad_item line place h e =
    let word = h.word in
    let w = word_text word in
    let ts = h.items in
    let q = 1 + length w + 1 in
    let fit = of_kinds_fit (length (line_of w ts) - 1) (kinds word) ts q h.of_kinds in
    let read = known w ts (word_is word).0 fit.0 word (word_is word).1 ∙ ap (λ o. unless bad_item o (items_read word (spread q ts))) fit.1 in
    no_item (unsound (kinds word) (spread q ts)) (said word (spread q ts)) place (sym read ∙ ap reading (sym h.whole) ∙ e)

-- a line whose numbers are told of fits
pub number_after : (o : Option ℕ) (a : Result Form Told) (place : ℕ) → unless bad_item o a ≡ Err (bad_number place) → o ≡ None
number_after None a place e = refl
number_after (Some q) a place e = absurd (let n = ap number_of e in omega arith)

pub bad_number_fits : (line : List ℕ) (place : ℕ) → reading line ≡ Err (bad_number place) → FitsForm line
bad_number_fits line place e =
    let sh = shaped_else line (λ p f. let n = ap number_of (sym f ∙ e) in omega arith) in
    let w = sh.word in
    let ts = sh.items in
    let read = ap reading (sym sh.whole) ∙ e in
    elim (word_named w) as (λ o. word_named w ≡ o → FitsForm line) [
      | None ↦ λ none. absurd (let n = ap number_of (sym (unknown w ts sh.is_word sh.are_items none) ∙ read) in omega arith)
      | Some word ↦ λ found.
          let q = 1 + length w + 1 in
          let last = length (line_of w ts) - 1 in
          let fit = number_after (misfit last (kinds word) (spread q ts)) (items_read word (spread q ts)) place (sym (known w ts sh.is_word sh.are_items word found) ∙ read) in
          record {
            word = word;
            items = ts;
            of_kinds = fit_of_kinds last (kinds word) ts q sh.are_items fit;
            whole = sh.whole ∙ ap (λ v. line_of v ts) (named_text word_text w words word found);
          }
    ] refl
