-- The tie between a table and a ledger, and how a started and an ended message keep it. Assumes nothing.
use Rattle.std.proofs.Common.{◌≡◌, ℕ, ◌-◌, ◌≤◌, Bool, true, false, cond, not, ◌&&◌, eqb, ltb, ◌⊎◌, [], ◌∷◌, map, length, get_or, is_some, Some, None, count_by, Option, sym, refl, ap, ◌∙◌, subst, inl, inr, ⊎_elim, arith}
use Rattle.std.specs.List.{AllByRecursion}
use Rattle.std.proofs.ByRecursion.{All-weaker, All-map}
use Rattle.std.proofs.lemmas.List.Sums.{sum_by-cons}
use Rattle.std.proofs.lemmas.Bool.{cases_Bool, cases_eq, cond-true, cond-false, eq-eqb, ne_eqb, or_from}
use Rattle.engine.specs.declared.row.Figures.{Figures}
use Rattle.engine.specs.declared.row.Row.{Row}
use Rattle.engine.specs.Cycle.{Slots}
use Rattle.rules.specs.Calls.{is_used, new_row, put}
use Rattle.rules.specs.Ledger.{Message, Ledger, live_on, any, begin, end, end_on, noted_in, lived_to, one_if}
use Rattle.rules.specs.Promise.{Accounted, units_in}
use Rattle.rules.proofs.Accounts.{Account, account_new}
use Rattle.rules.proofs.Fates.{accounted}
use Rattle.rules.proofs.Sums.{sum_like, sum_map, sum_zero, all_each}

-- what a slot holds of a live message
abbrev pub Held : Message → ℕ → Option Row → Type 0
Held m now None = ⊥
Held m now (Some x) = (m.figures ≡ x.figures) × ((k : ℕ) × Account x.figures m.start m.noted now x.wait x.left k)

-- a live message is held by its row; the account of an ended one stands as it was at its end
abbrev pub TiedBy : Option ℕ → Slots → ℕ → Message → Type 0
TiedBy None t now m = Held m now (t m.row)
TiedBy (Some e) t now m = (wait left k : ℕ) × (e ≤ now) × Account m.figures m.start m.noted e wait left k

abbrev pub Tied : Slots → ℕ → Message → Type 0
Tied t now m = TiedBy m.ended t now m

pub record Tie (t : Slots) (l : Ledger) : Type 0 where
  pub unbroken : l.broken ≡ false
  -- a row is in use exactly where one live message has it
  pub counts : (r : ℕ) → count_by (live_on r) l.messages ≡ one_if (is_used (t r))
  pub tied : AllByRecursion (Tied t l.count) l.messages
  pub long : length l.windows ≡ l.count
  pub in_window : (c : ℕ) → 1 ≤ c → c ≤ l.count → units_in c l.messages ≤ get_or l.windows (c - 1) 0

-- a tied message is accounted for
pub accounted_when_tied : (t : Slots) (l : Ledger) (m : Message) → Tied t l.count m → Accounted l m
accounted_when_tied t l m h = go m.ended refl h
  where
    held : (a : Option Row) → lived_to l m ≡ l.count → Held m l.count a → Accounted l m
    held None e h = absurd h
    held (Some x) e h =
        accounted l m x.wait x.left h.1.0
        (subst (λ n. Account m.figures m.start m.noted n x.wait x.left h.1.0) (sym e)
        (subst (λ f. Account f m.start m.noted l.count x.wait x.left h.1.0) (sym h.0) h.1.1))

    go : (e : Option ℕ) → m.ended ≡ e → TiedBy e t l.count m → Accounted l m
    go None is h = held (t m.row) (ap (λ e. elim e as (λ _. ℕ) [ Some c ↦ c | None ↦ l.count ]) is) h
    go (Some c) is h =
        let lived : lived_to l m ≡ c = ap (λ e. elim e as (λ _. ℕ) [ Some c ↦ c | None ↦ l.count ]) is in
        accounted l m h.0 h.1 h.2 (subst (λ n. Account m.figures m.start m.noted n h.0 h.1 h.2) (sym lived) h.4)

-- one row of the table is changed
pub put_same : (r : ℕ) (a : Option Row) (t : Slots) → put r a t r ≡ a
put_same r a t = cond-true (eqb r r) a (t r) (eq-eqb r r refl)

pub put_other : (r k : ℕ) (a : Option Row) (t : Slots) → (k ≡ r → ⊥) → put r a t k ≡ t k
put_other r k a t h = cond-false (eqb k r) a (t k) (ne_eqb k r h)

-- a live message on a row that is in use
any_live : (t : Slots) (l : Ledger) (r : ℕ) → Tie t l → any (live_on r) l.messages ≡ is_used (t r)
any_live t l r tie = let n = tie.counts r in ap (ltb 0) n ∙ bit (is_used (t r))
  where
    bit : (b : Bool) → ltb 0 (one_if b) ≡ b
    bit true = refl
    bit false = refl

-- BEGIN: a message on an empty row
module _ (t : Slots) (l : Ledger) (r : ℕ) (f : Figures) (empty : t r ≡ None) (tie : Tie t l) where
  abbrev t⁺ : Slots
  t⁺ = put r (Some (new_row f)) t

  abbrev begun : Message
  begun = record { row = r; figures = f; start = l.count; ended = None; noted = [] }

  begin_tied : (m : Message) → Tied t l.count m → Tied t⁺ l.count m
  begin_tied m h = go m.ended h
    where
      go : (e : Option ℕ) → TiedBy e t l.count m → TiedBy e t⁺ l.count m
      go (Some c) h = h
      go None h =
          ⊎_elim
          (λ (same : m.row ≡ r). absurd (subst (Held m l.count) (ap t same ∙ empty) h))
          (λ (other : m.row ≡ r → ⊥). subst (Held m l.count) (sym (put_other r m.row (Some (new_row f)) t other)) h)
          (cases_eq m.row r)

  begin_count : (q : ℕ) → count_by (live_on q) (begun ∷ l.messages) ≡ one_if (is_used (t⁺ q))
  begin_count q =
      let more = sum_by-cons (λ m. cond (live_on q m) 1 0) begun l.messages in
      let before = tie.counts q in
      ⊎_elim
      (λ (same : q ≡ r).
      let now_used : one_if (is_used (t⁺ q)) ≡ 1 = ap (λ k. one_if (is_used (t⁺ k))) same ∙ ap (λ a. one_if (is_used a)) (put_same r (Some (new_row f)) t) in
      let was : one_if (is_used (t q)) ≡ 0 = ap (λ k. one_if (is_used (t k))) same ∙ ap (λ a. one_if (is_used a)) empty in
      let first : one_if (live_on q begun) ≡ 1 = ap one_if (eq-eqb r q (sym same)) in
      omega arith)
      (λ (other : q ≡ r → ⊥).
      let still : one_if (is_used (t⁺ q)) ≡ one_if (is_used (t q)) = ap (λ a. one_if (is_used a)) (put_other r q (Some (new_row f)) t other) in
      let first : one_if (live_on q begun) ≡ 0 = ap one_if (ne_eqb r q (λ e. other (sym e))) in
      omega arith)
      (cases_eq q r)

  pub begin_tie : Tie t⁺ (begin r f l)
  begin_tie =
      record {
        unbroken = or_from _ _ tie.unbroken (any_live t l r tie ∙ ap is_used empty);
        counts = begin_count;
        tied = (subst (Held begun l.count) (sym (put_same r (Some (new_row f)) t)) (refl, (0, account_new f l.count)), All-weaker _ _ begin_tied l.messages tie.tied);
        long = tie.long;
        in_window = λ c low high. omega (arith, tie.in_window c low high, sum_by-cons (λ m. cond (noted_in c m) m.figures.duration 0) begun l.messages);
      }

-- END: the message of a row in use
module _ (t : Slots) (l : Ledger) (r : ℕ) (used : is_used (t r) ≡ true) (tie : Tie t l) where
  abbrev t⁻ : Slots
  t⁻ = put r None t

  abbrev now : ℕ
  now = l.count

  -- a message of another row stays live, and one of this row does not
  stays_live : (m : Message) (q : ℕ) → (q ≡ r → ⊥) → live_on q (end_on r now m) ≡ live_on q m
  stays_live m q other = go m.ended (cases_eq m.row r)
    where
      go : (e : Option ℕ) → (m.row ≡ r) ⊎ (m.row ≡ r → ⊥) → (not (is_some (cond (not (is_some e) && eqb m.row r) (Some now) e)) && eqb m.row q) ≡ (not (is_some e) && eqb m.row q)
      go (Some c) h = refl
      go None (inl same) =
          let here : eqb m.row r ≡ true = eq-eqb m.row r same in
          let there : eqb m.row q ≡ false = ne_eqb m.row q (λ e. other (sym e ∙ same)) in
          ap (λ b. not (is_some (cond (true && b) (Some now) None)) && eqb m.row q) here ∙ sym there
      go None (inr apart) = ap (λ b. not (is_some (cond (true && b) (Some now) None)) && eqb m.row q) (ne_eqb m.row r apart)

  not_live : (m : Message) → live_on r (end_on r now m) ≡ false
  not_live m = go m.ended (cases_Bool (eqb m.row r))
    where
      go : (e : Option ℕ) → (eqb m.row r ≡ true) ⊎ (eqb m.row r ≡ false) → (not (is_some (cond (not (is_some e) && eqb m.row r) (Some now) e)) && eqb m.row r) ≡ false
      go (Some c) h = refl
      go None (inl same) = ap (λ b. not (is_some (cond (true && b) (Some now) None)) && b) same
      go None (inr apart) = ap (λ b. not (is_some (cond (true && b) (Some now) None)) && b) apart

  end_count : (q : ℕ) → count_by (live_on q) (map (end_on r now) l.messages) ≡ one_if (is_used (t⁻ q))
  end_count q =
      sum_map (λ m. cond (live_on q m) 1 0) (end_on r now) l.messages
      ∙ ⊎_elim
      (λ (same : q ≡ r).
      sum_like _ (λ m. 0) l.messages (all_each _ (λ m. ap (λ k. one_if (live_on k (end_on r now m))) same ∙ ap one_if (not_live m)) l.messages)
      ∙ sum_zero l.messages
      ∙ sym (ap (λ k. one_if (is_used (t⁻ k))) same ∙ ap (λ a. one_if (is_used a)) (put_same r None t)))
      (λ (other : q ≡ r → ⊥).
      sum_like _ _ l.messages (all_each _ (λ m. ap one_if (stays_live m q other)) l.messages)
      ∙ tie.counts q
      ∙ sym (ap (λ a. one_if (is_used a)) (put_other r q None t other)))
      (cases_eq q r)

  end_tied : (m : Message) → Tied t now m → Tied t⁻ now (end_on r now m)
  end_tied m h = go m.ended h (cases_eq m.row r)
    where
      frozen : (a : Option Row) → Held m now a → (wait left k : ℕ) × (now ≤ now) × Account m.figures m.start m.noted now wait left k
      frozen None h = absurd h
      frozen (Some x) h = (x.wait, x.left, h.1.0, omega arith, subst (λ f. Account f m.start m.noted now x.wait x.left h.1.0) (sym h.0) h.1.1)

      m⁻ : Message
      m⁻ = end_on r now m

      by_end : (b : Bool) → eqb m.row r ≡ b → TiedBy (cond (true && b) (Some now) None) t⁻ now m⁻ → TiedBy (cond (true && eqb m.row r) (Some now) None) t⁻ now m⁻
      by_end b is h = subst (λ v. TiedBy (cond (true && v) (Some now) None) t⁻ now m⁻) (sym is) h

      go : (e : Option ℕ) → TiedBy e t now m → (m.row ≡ r) ⊎ (m.row ≡ r → ⊥) → TiedBy (cond (not (is_some e) && eqb m.row r) (Some now) e) t⁻ now m⁻
      go (Some c) h w = h
      go None h (inl same) = by_end true (eq-eqb m.row r same) (frozen (t m.row) h)
      go None h (inr apart) = by_end false (ne_eqb m.row r apart) (subst (Held m now) (sym (put_other r m.row None t apart)) h)

  pub end_tie : Tie t⁻ (end r l)
  end_tie =
      record {
        unbroken = or_from _ _ tie.unbroken (ap not (any_live t l r tie ∙ used));
        counts = end_count;
        tied = All-map (Tied t⁻ now) (end_on r now) l.messages (All-weaker _ _ end_tied l.messages tie.tied);
        long = tie.long;
        in_window = λ c low high. omega (arith, tie.in_window c low high, sum_map (λ m. cond (noted_in c m) m.figures.duration 0) (end_on r now) l.messages);
      }
