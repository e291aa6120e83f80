-- Where items stop to fit, and numbers to be sound. Assumes nothing.
use Rattle.std.proofs.Common.{◌≡◌, ℕ, ◌+◌, ◌-◌, ◌<◌, false, ◌⊎◌, List, [], ◌∷◌, ◌++◌, length, Some, None, Ok, Err, Option, sym, refl, ap, ◌∙◌, subst, inl, inr, append_assoc, arith}
use Rattle.std.specs.List.{AllByRecursion}
use Rattle.std.proofs.lemmas.List.{length-append}
use Rattle.std.proofs.lemmas.Bool.{cases_Bool, cond-true, cond-false, both_ways}
use Rattle.lines.specs.declared.form.Form.{Form}
use Rattle.lines.specs.declared.word.Word.{Word}
use Rattle.lines.specs.declared.word.Kind.{Kind}
use Rattle.lines.specs.Forms.{word_text, word_named, words, kinds, takes, sound, misfit, unsound, said}
use Rattle.lines.specs.Reading.{bad_item, bad_number, unless, items_read, reading}
use Rattle.lines.specs.Grammar.{IsItem, closing, line_of}
use Rattle.lines.specs.Spelling.{OfKinds}
use Rattle.lines.specs.Places.{awaiting, ItemAt, NotDue, WrongItem, TooFew, BadItemAt, Sounds, BadNumberAt}
use Rattle.lines.proofs.Walks.{none≢some, some_same}
use Rattle.lines.proofs.Spells.{spread, named_text}
use Rattle.lines.proofs.Returns.{number_of, place_of, known, unknown, shaped_else, of_kind_takes, takes_of_kind, fit_of_kinds, no_item, number_after, word_is}

-- the items from t on stand behind those before it
cut : (good : List (List ℕ)) (t : List ℕ) (rest : List (List ℕ)) → closing (good ++ t ∷ rest) ≡ awaiting good ++ (t ++ closing rest)
cut [] t rest = refl
cut (g ∷ good) t rest =
    ap (λ l. 32 ∷ (g ++ l)) (cut good t rest) ∙ ap (λ l. 32 ∷ l) (sym (append_assoc g (awaiting good) (t ++ closing rest)))

-- where items from place q on stop to fit
record Wrong (ks : List Kind) (ts : List (List ℕ)) (q place : ℕ) : Type 0 where
  good : List (List ℕ)
  item : List ℕ
  rest : List (List ℕ)
  met : List Kind
  due : List Kind
  items : ts ≡ good ++ item ∷ rest
  split : ks ≡ met ++ due
  of_kinds : OfKinds met good
  not_due : NotDue due item
  at : place + 1 ≡ q + length (awaiting good)

record Few (last : ℕ) (ks : List Kind) (ts : List (List ℕ)) (place : ℕ) : Type 0 where
  met : List Kind
  due : List Kind
  split : ks ≡ met ++ due
  lacking : 0 < length due
  of_kinds : OfKinds met ts
  at : place ≡ last

stops : (last : ℕ) (ks : List Kind) (ts : List (List ℕ)) (q place : ℕ) → AllByRecursion IsItem ts → misfit last ks (spread q ts) ≡ Some place → Wrong ks ts q place ⊎ Few last ks ts place
stops last [] [] q place all e = absurd (none≢some place e)
stops last [] (t ∷ ts) q place all e =
    inl (record {
      good = [];
      item = t;
      rest = ts;
      met = [];
      due = [];
      items = refl;
      split = refl;
      of_kinds = tt;
      not_due = tt;
      at = omega (arith, some_same q place e);
    })
stops last (k ∷ ks) [] q place all e =
    inr (record { met = []; due = k ∷ ks; split = refl; lacking = omega arith; of_kinds = tt; at = sym (some_same last place e) })
stops last (k ∷ ks) (t ∷ ts) q place all e =
    elim (cases_Bool (takes k t)) [
      | inl fits ↦ elim (stops last ks ts (q + length t + 1) place all.1 (sym (cond-true _ _ _ fits) ∙ e)) [
        | inl w ↦
            let longer = length-append t (awaiting w.good) in
            inl (record {
              good = t ∷ w.good;
              item = w.item;
              rest = w.rest;
              met = k ∷ w.met;
              due = w.due;
              items = ap (λ l. t ∷ l) w.items;
              split = ap (λ l. k ∷ l) w.split;
              of_kinds = (takes_of_kind k t all.0 fits, w.of_kinds);
              not_due = w.not_due;
              at = omega (arith, w.at);
            })
        | inr f ↦
            inr (record {
              met = k ∷ f.met;
              due = f.due;
              split = ap (λ l. k ∷ l) f.split;
              lacking = f.lacking;
              of_kinds = (takes_of_kind k t all.0 fits, f.of_kinds);
              at = f.at;
            })
      ]
      | inr no_fit ↦
          inl (record {
            good = [];
            item = t;
            rest = ts;
            met = [];
            due = k ∷ ks;
            items = refl;
            split = refl;
            of_kinds = tt;
            not_due = λ is. both_ways (takes k t) no_fit (of_kind_takes k t is).1;
            at = omega (arith, some_same q place (sym (cond-false _ _ _ no_fit) ∙ e));
          })
    ]

-- where the numbers of items that fit stop to be sound
record Unsound (ks : List Kind) (ts : List (List ℕ)) (q place : ℕ) : Type 0 where
  good : List (List ℕ)
  number : List ℕ
  rest : List (List ℕ)
  met : List Kind
  kind : Kind
  due : List Kind
  items : ts ≡ good ++ number ∷ rest
  split : ks ≡ met ++ kind ∷ due
  sounds : Sounds met good
  unsound_one : sound kind number ≡ false
  at : place + 1 ≡ q + length (awaiting good)

finds : (ks : List Kind) (ts : List (List ℕ)) (q place : ℕ) → OfKinds ks ts → unsound ks (spread q ts) ≡ Some place → Unsound ks ts q place
finds [] [] q place fit e = absurd (none≢some place e)
finds [] (t ∷ ts) q place fit e = absurd fit
finds (k ∷ ks) [] q place fit e = absurd fit
finds (k ∷ ks) (t ∷ ts) q place fit e =
    elim (cases_Bool (sound k t)) [
      | inl ok ↦
          let u = finds ks ts (q + length t + 1) place fit.1 (sym (cond-true _ _ _ ok) ∙ e) in
          let longer = length-append t (awaiting u.good) in
          record {
            good = t ∷ u.good;
            number = u.number;
            rest = u.rest;
            met = k ∷ u.met;
            kind = u.kind;
            due = u.due;
            items = ap (λ l. t ∷ l) u.items;
            split = ap (λ l. k ∷ l) u.split;
            sounds = (ok, u.sounds);
            unsound_one = u.unsound_one;
            at = omega (arith, u.at);
          }
      | inr bad ↦
          record {
            good = [];
            number = t;
            rest = ts;
            met = [];
            kind = k;
            due = ks;
            items = refl;
            split = refl;
            sounds = tt;
            unsound_one = bad;
            at = omega (arith, some_same q place (sym (cond-false _ _ _ bad) ∙ e));
          }
    ]

-- an item of a line, at its place
item_at : (line : List ℕ) (word : Word) (ts good : List (List ℕ)) (t : List ℕ) (rest : List (List ℕ)) (place : ℕ) → line ≡ line_of (word_text word) ts → ts ≡ good ++ t ∷ rest → place + 1 ≡ 1 + length (word_text word) + 1 + length (awaiting good) → ItemAt line place word good t rest
item_at line word ts good t rest place whole items at =
    let w = word_text word in
    let long = length-append w (awaiting good) in
    record {
      whole =
          whole
          ∙ ap (line_of w) items
          ∙ ap (λ l. 40 ∷ (w ++ l)) (cut good t rest)
          ∙ ap (λ l. 40 ∷ l) (sym (append_assoc w (awaiting good) (t ++ closing rest)));
      begins = omega arith;
    }

-- a bad item is the one that was found
item_found : (o p : Option ℕ) (f : Form) (place : ℕ) → unless bad_item o (unless bad_number p (Ok f)) ≡ Err (bad_item place) → o ≡ Some place
item_found None p f place e = absurd (no_item p f place e)
item_found (Some q) p f place e = ap (λ r. Some (place_of r)) e

number_found : (o : Option ℕ) (f : Form) (place : ℕ) → unless bad_number o (Ok f) ≡ Err (bad_number place) → o ≡ Some place
number_found None f place e = absurd (let n = ap number_of e in omega arith)
number_found (Some q) f place e = ap (λ r. Some (place_of r)) e

-- a line with a known word
module _ (line : List ℕ) (word : Word) (ts : List (List ℕ)) (all : AllByRecursion IsItem ts) (whole : line ≡ line_of (word_text word) ts) where
  abbrev q : ℕ
  q = 1 + length (word_text word) + 1

  abbrev last : ℕ
  last = length (line_of (word_text word) ts) - 1

  read_so : reading line ≡ unless bad_item (misfit last (kinds word) (spread q ts)) (items_read word (spread q ts))
  read_so = ap reading whole ∙ known (word_text word) ts (word_is word).0 all word (word_is word).1

  item_told : (place : ℕ) → reading line ≡ Err (bad_item place) → WrongItem line place ⊎ TooFew line place
  item_told place e =
      let found = item_found (misfit last (kinds word) (spread q ts)) (unsound (kinds word) (spread q ts)) (said word (spread q ts)) place (sym read_so ∙ e) in
      elim (stops last (kinds word) ts q place all found) [
        | inl w ↦
            inl (record {
              word = word;
              good = w.good;
              item = w.item;
              rest = w.rest;
              met = w.met;
              due = w.due;
              split = w.split;
              of_kinds = w.of_kinds;
              not_due = w.not_due;
              at = item_at line word ts w.good w.item w.rest place whole w.items w.at;
            })
        | inr f ↦
            inr (record {
              word = word;
              items = ts;
              met = f.met;
              due = f.due;
              split = f.split;
              lacking = f.lacking;
              of_kinds = f.of_kinds;
              whole = whole;
              last = omega (arith, f.at, ap length whole);
            })
      ]

  number_told : (place : ℕ) → reading line ≡ Err (bad_number place) → BadNumberAt line place
  number_told place e =
      let read = sym read_so ∙ e in
      let fit = number_after (misfit last (kinds word) (spread q ts)) (items_read word (spread q ts)) place read in
      let of = fit_of_kinds last (kinds word) ts q all fit in
      let told = sym (ap (λ o. unless bad_item o (items_read word (spread q ts))) fit) ∙ read in
      let u = finds (kinds word) ts q place of (number_found (unsound (kinds word) (spread q ts)) (said word (spread q ts)) place told) in
      record {
        word = word;
        good = u.good;
        number = u.number;
        rest = u.rest;
        met = u.met;
        kind = u.kind;
        due = u.due;
        split = u.split;
        of_kinds = subst (OfKinds (kinds word)) {y = u.good ++ u.number ∷ u.rest} u.items of;
        sounds = u.sounds;
        unsound = u.unsound_one;
        at = item_at line word ts u.good u.number u.rest place whole u.items u.at;
      }

pub bad_item_at : (line : List ℕ) (place : ℕ) → reading line ≡ Err (bad_item place) → BadItemAt line place
bad_item_at line place e =
    let sh = shaped_else line (λ p f. let n = ap number_of (sym f ∙ e) in omega arith) in
    let w = sh.word in
    let ts = sh.items in
    elim (word_named w) as (λ o. word_named w ≡ o → BadItemAt line place) [
      | None ↦ λ none.
          inl (record {
            text = w;
            items = ts;
            whole = sh.whole;
            unknown = λ word is. none≢some word (sym none ∙ ap word_named is ∙ (word_is word).1);
            begins = ap place_of (sym e ∙ ap reading sh.whole ∙ unknown w ts sh.is_word sh.are_items none);
          })
      | Some word ↦ λ found.
          inr (item_told line word ts sh.are_items (sh.whole ∙ ap (λ v. line_of v ts) (named_text word_text w words word found)) place e)
    ] refl

pub bad_number_at : (line : List ℕ) (place : ℕ) → reading line ≡ Err (bad_number place) → BadNumberAt line place
bad_number_at line place e =
    let sh = shaped_else line (λ p f. let n = ap number_of (sym f ∙ e) in omega arith) in
    let w = sh.word in
    let ts = sh.items in
    elim (word_named w) as (λ o. word_named w ≡ o → BadNumberAt line place) [
      | None ↦ λ none.
          absurd (let n = ap number_of (sym (unknown w ts sh.is_word sh.are_items none) ∙ ap reading (sym sh.whole) ∙ e) in omega arith)
      | Some word ↦ λ found.
          number_told line word ts sh.are_items (sh.whole ∙ ap (λ v. line_of v ts) (named_text word_text w words word found)) place e
    ] refl
