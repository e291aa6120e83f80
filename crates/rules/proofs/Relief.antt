-- After a drop or a wider window no message is scheduled later. Assumes nothing.
use Rattle.std.proofs.Common.{◌≡◌, ℕ, zero, suc, ◌+◌, ◌-◌, ◌<◌, ◌≤◌, Bool, true, false, cond, not, ◌&&◌, eqb, ltb, leb, ◌⊎◌, List, [], ◌∷◌, ◌++◌, map, length, is_some, Some, None, Ok, Err, count_by, Option, sym, refl, ap, ◌∙◌, subst, subst₂, inl, inr, ⊎_elim, le_refl, arith}
use Rattle.std.specs.Option.{option_map}
use Rattle.std.specs.List.{AllByRecursion, AllZip}
use Rattle.std.proofs.ByRecursion.{All-weaker, All-map}
use Rattle.std.proofs.lemmas.List.Sums.{sum_by-cons}
use Rattle.std.proofs.lemmas.Bool.{cases_Bool, cases_eq, false≢true, both_ways, eq-eqb, ne_eqb, eqb-true, ltb-true, lt-ltb, leb-true, and_parts}
use Rattle.std.proofs.lemmas.Bool.Decides.{nat_tests}
use Rattle.bus.specs.Refusals.{Told}
use Rattle.bus.specs.Rows.{member}
use Rattle.orders.specs.Laws.{Order, Laws}
use Rattle.engine.specs.declared.row.Row.{Row}
use Rattle.engine.specs.Rows.{waits, closed}
use Rattle.engine.specs.Rows.{released as row_released}
use Rattle.engine.specs.Comparison.{Lighter}
use Rattle.engine.specs.Cycle.{Slots, Rules, used_and, release, cycle, word}
use Rattle.engine.proofs.Lighter.{release_sound, release_lighter, scheduled_lighter, cycle_lighter}
use Rattle.rules.specs.Calls.{Call, Report, State, Outcome, Step, fresh, put, settle, rules_of, rehearsed, with_slots, with_window, checks, outcome, step, answer, after, run, history}
use Rattle.rules.specs.Calls.Call.{add, alter, drop, set_window, set_policy, next}
use Rattle.rules.specs.Ledger.{Message, Ledger, blank, releases, instance_in, is_live, note, turn, end, end_on, resized, by_answer, enter, entered, one_if}
use Rattle.rules.specs.Promise.{NoLater, is_made, relieves, ledger_of, Promise}
use Rattle.rules.proofs.Accounts.{Account, Done, Open, Closed, number_in, account_number}
use Rattle.rules.proofs.Keeping.{Sure, list_kept, every_list_kept, sure_fresh, made_drop, made_window}
use Rattle.rules.proofs.Safe.{Safe, safe_next, lighter_itself, lighter_without}
use Rattle.rules.proofs.Ties.{Held, TiedBy, Tied}
use Rattle.rules.proofs.Turn.{chosen, LiveTurn, live_turn, ready_in, turn_tied}

-- NOTES in a list of cycles

abbrev has : ℕ → List ℕ → Bool
has i cs = ltb 0 (count_by (eqb i) cs)

has_first : (c : ℕ) (cs : List ℕ) → has c (c ∷ cs) ≡ true
has_first c cs =
    let here : one_if (eqb c c) ≡ 1 = ap one_if (eq-eqb c c refl) in
    lt-ltb 0 _ (omega (arith, sum_by-cons (λ i. one_if (eqb c i)) c cs))

has_more : (d : Bool) (i c : ℕ) (cs : List ℕ) → has i cs ≡ true → has i (cond d (c ∷ cs) cs) ≡ true
has_more false i c cs h = h
has_more true i c cs h = lt-ltb 0 _ (omega (arith, sum_by-cons (λ k. one_if (eqb i k)) c cs, ltb-true 0 _ h))

has_cases : (d : Bool) (i c : ℕ) (cs : List ℕ) → has i (cond d (c ∷ cs) cs) ≡ true → (has i cs ≡ true) ⊎ ((d ≡ true) × (i ≡ c))
has_cases false i c cs h = inl h
has_cases true i c cs h =
    ⊎_elim
    (λ (same : i ≡ c). inr (refl, same))
    (λ (other : i ≡ c → ⊥).
    let here : one_if (eqb i c) ≡ 0 = ap one_if (ne_eqb i c other) in
    inl (lt-ltb 0 _ (omega (arith, sum_by-cons (λ k. one_if (eqb i k)) c cs, ltb-true 0 _ h))))
    (cases_eq i c)

-- some cycle of a list passes a test that is passed at all
found : (test : ℕ → Bool) (P : ℕ → Type 0) (cs : List ℕ) → AllByRecursion P cs → 0 < count_by test cs → (c : ℕ) × (has c cs ≡ true) × (test c ≡ true) × P c
found test P [] all h = absurd (omega arith)
found test P (c ∷ cs) all h = go (test c) refl (found test P cs all.1)
  where
    go : (b : Bool) → test c ≡ b → (0 < count_by test cs → (i : ℕ) × (has i cs ≡ true) × (test i ≡ true) × P i) → (i : ℕ) × (has i (c ∷ cs) ≡ true) × (test i ≡ true) × P i
    go true is later = (c, has_first c cs, is, all.0)
    go false is later =
        let here : one_if (test c) ≡ 0 = ap one_if is in
        let x = later (omega (arith, sum_by-cons (λ i. one_if (test i)) c cs)) in
        (x.0, has_more true x.0 c cs x.1, x.2, x.3)

-- ONE CYCLE of two tables, the first of them lighter
module _ (goes : Order) (n wide narrow : ℕ) (wider : narrow ≤ wide) where
  abbrev one : Rules
  one = record { goes = goes; window = wide; rows = n }

  abbrev other : Rules
  other = record { goes = goes; window = narrow; rows = n }

  module _ (t s : Slots) (safe_t : Safe one t) (safe_s : Safe other s) (lighter : Lighter t s) (now : ℕ) where
    abbrev c : ℕ
    c = now + 1

    -- a row that the second schedules: the first schedules it too, or has nothing of it waiting
    either : (r : ℕ) (x : Row) → t r ≡ Some x → chosen other s r ≡ true → (chosen one t r ≡ true) ⊎ ((row_released x).left ≡ 0)
    either r x is yes_s =
        ⊎_elim
        (λ (wx : waits (row_released x) ≡ true).
        inl (scheduled_lighter goes n wide narrow wider (release t) (release s) (release_sound t safe_t.sound) (release_sound s safe_s.sound) (release_lighter t s lighter) r (ap (λ a. used_and waits (option_map row_released a)) is ∙ wx) yes_s))
        (λ (nx : waits (row_released x) ≡ false). inr (grind (arith, nat_tests)))
        (cases_Bool (waits (row_released x)))

    module _ (a b : Message) (held_a : Held a now (t a.row)) (held_b : Held b now (s b.row)) (row : a.row ≡ b.row) (figures : a.figures ≡ b.figures) (start : a.start ≡ b.start) where
      same_instance : (i : ℕ) → instance_in a i ≡ instance_in b i
      same_instance i = λ k. releases (figures k) (i - start k)

      -- what the second schedules now, the first schedules now or has scheduled
      scheduled_by : chosen other s b.row ≡ true → (chosen one t a.row ≡ true) ⊎ ((c' : ℕ) × (has c' a.noted ≡ true) × (c' ≤ c) × (instance_in a c' ≡ instance_in b c))
      scheduled_by yes_b = go (cases_Bool (chosen one t a.row))
        where
          go : (chosen one t a.row ≡ true) ⊎ (chosen one t a.row ≡ false) → (chosen one t a.row ≡ true) ⊎ ((c' : ℕ) × (has c' a.noted ≡ true) × (c' ≤ c) × (instance_in a c' ≡ instance_in b c))
          go (inl yes_a) = inl yes_a
          go (inr not_a) = inr (earlier (either a.row x l.held (ap (chosen other s) row ∙ yes_b)))
            where
              l : LiveTurn one t safe_t.within safe_t.sound safe_t.calm now a
              l = live_turn one t safe_t.within safe_t.sound safe_t.calm now a held_a

              x : Row
              x = l.x

              k : ℕ
              k = l.turned.0

              y : Row
              y = row_released x

              account : Account x.figures a.start a.noted c (y.wait - 1) (y.left - 1) k
              account =
                  subst (λ d. Account x.figures a.start (cond d (c ∷ a.noted) a.noted) c (closed d y).wait (closed d y).left k) not_a l.turned.1

              number : instance_in a c ≡ k
              number = ap (λ f. releases f (c - a.start)) l.same ∙ account_number x.figures a.start a.noted c (y.wait - 1) (y.left - 1) k account

              some : 1 ≤ k
              some = omega (arith, ready_in other s safe_s.within safe_s.sound safe_s.calm now b held_b yes_b, same_instance c, number)

              done : y.left ≡ 0 → Open x.figures a.start a.noted c (y.left - 1) k ⊎ Closed x.figures a.start a.noted (y.left - 1) k → Done x.figures a.start a.noted k
              done idle (inl o) = absurd (omega (arith, o.waits))
              done idle (inr e) = e.done some

              earlier : (chosen one t a.row ≡ true) ⊎ (y.left ≡ 0) → (c' : ℕ) × (has c' a.noted ≡ true) × (c' ≤ c) × (instance_in a c' ≡ instance_in b c)
              earlier (inl yes_a) = absurd (both_ways _ not_a yes_a)
              earlier (inr idle) =
                  let d = done idle account.last in
                  let f = found (λ i. eqb (number_in x.figures a.start i) k) (λ i. i ≤ c) a.noted (All-weaker _ _ (λ i h. h.1) a.noted account.in_life) (omega (arith, d.once)) in
                  (f.0, f.1, f.3, ap (λ g. releases g (f.0 - a.start)) l.same ∙ eqb-true _ _ f.2 ∙ sym number ∙ same_instance c)

    -- a pair of messages through the cycle
    pair_on : (a b : Message) → Tied t now a → Tied s now b → NoLater a b → NoLater (note (word one t) c a) (note (word other s) c b)
    pair_on a b tied_a tied_b p =
        record { row = p.row; figures = p.figures; start = p.start; sooner = sooner }
      where
        noted_a : Bool
        noted_a = is_live a && member (word one t) a.row

        noted_b : Bool
        noted_b = is_live b && member (word other s) b.row

        Sooner : ℕ → Type 0
        Sooner i = (c' : ℕ) × (has c' (cond noted_a (c ∷ a.noted) a.noted) ≡ true) × (c' ≤ i) × (instance_in a c' ≡ instance_in b i)

        sooner : a.ended ≡ None → b.ended ≡ None → (i : ℕ) → has i (cond noted_b (c ∷ b.noted) b.noted) ≡ true → Sooner i
        sooner live_a live_b i h = go (has_cases noted_b i c b.noted h)
          where
            held_a : Held a now (t a.row)
            held_a = subst (λ e. TiedBy e t now a) live_a tied_a

            held_b : Held b now (s b.row)
            held_b = subst (λ e. TiedBy e s now b) live_b tied_b

            la : LiveTurn one t safe_t.within safe_t.sound safe_t.calm now a
            la = live_turn one t safe_t.within safe_t.sound safe_t.calm now a held_a

            lb : LiveTurn other s safe_s.within safe_s.sound safe_s.calm now b
            lb = live_turn other s safe_s.within safe_s.sound safe_s.calm now b held_b

            is_a : noted_a ≡ chosen one t a.row
            is_a = ap (λ e. not (is_some e) && member (word one t) a.row) live_a ∙ la.noted

            is_b : noted_b ≡ chosen other s b.row
            is_b = ap (λ e. not (is_some e) && member (word other s) b.row) live_b ∙ lb.noted

            new : i ≡ c → (chosen one t a.row ≡ true) ⊎ ((c' : ℕ) × (has c' a.noted ≡ true) × (c' ≤ c) × (instance_in a c' ≡ instance_in b c)) → Sooner i
            new same (inl yes_a) = (
              c,
              ap (λ d. has c (cond d (c ∷ a.noted) a.noted)) (is_a ∙ yes_a) ∙ has_first c a.noted,
              omega arith,
              same_instance a b held_a held_b p.row p.figures p.start c ∙ ap (instance_in b) (sym same),
            )
            new same (inr x) = (x.0, has_more noted_a x.0 c a.noted x.1, omega (arith, x.2), x.3 ∙ ap (instance_in b) (sym same))

            go : (has i b.noted ≡ true) ⊎ ((noted_b ≡ true) × (i ≡ c)) → Sooner i
            go (inl old) =
                let x = p.sooner live_a live_b i old in
                (x.0, has_more noted_a x.0 c a.noted x.1, x.2, x.3)
            go (inr now_noted) = new now_noted.1 (scheduled_by a b held_a held_b p.row p.figures p.start (sym is_b ∙ now_noted.0))

    pairs_on : (xs ys : List Message) → AllByRecursion (Tied t now) xs → AllByRecursion (Tied s now) ys → AllZip NoLater xs ys → AllZip NoLater (map (note (word one t) c) xs) (map (note (word other s) c) ys)
    pairs_on [] [] tx ty p = tt
    pairs_on [] (y ∷ ys) tx ty p = absurd p
    pairs_on (x ∷ xs) [] tx ty p = absurd p
    pairs_on (x ∷ xs) (y ∷ ys) tx ty p = (pair_on x y tx.0 ty.0 p.0, pairs_on xs ys tx.1 ty.1 p.1)

-- MANY CYCLES: the ledger after so many, with no call between them
unfoldable turns : Rules → ℕ → Slots → Ledger → Ledger
turns rules zero t l = l
turns rules (suc k) t l = turns rules k (cycle rules t) (turn rules.rows (word rules t) l)

turn_all_tied : (rules : Rules) (t : Slots) → Safe rules t → (now : ℕ) (ms : List Message) → AllByRecursion (Tied t now) ms → AllByRecursion (Tied (cycle rules t) (now + 1)) (map (note (word rules t) (now + 1)) ms)
turn_all_tied rules t safe now ms all =
    All-map (Tied (cycle rules t) (now + 1)) (note (word rules t) (now + 1)) ms (All-weaker _ _ (turn_tied rules t safe.within safe.sound safe.calm now) ms all)

module _ (goes : Order) (n wide narrow : ℕ) (wider : narrow ≤ wide) where
  turns_no_later : (k : ℕ) (t s : Slots) (l m : Ledger) → Safe (one goes n wide narrow wider) t → Safe (other goes n wide narrow wider) s → Lighter t s → l.count ≡ m.count
      → AllByRecursion (Tied t l.count) l.messages → AllByRecursion (Tied s m.count) m.messages → AllZip NoLater l.messages m.messages
      → AllZip NoLater (turns (one goes n wide narrow wider) k t l).messages (turns (other goes n wide narrow wider) k s m).messages
  unfolding turns
  turns_no_later zero t s l m safe_t safe_s lighter same tied_l tied_m each = each
  turns_no_later (suc k) t s l m safe_t safe_s lighter same tied_l tied_m each =
      let first = one goes n wide narrow wider in
      let second = other goes n wide narrow wider in
      turns_no_later k (cycle first t) (cycle second s) (turn n (word first t) l) (turn n (word second s) m) (safe_next first t safe_t) (safe_next second s safe_s)
      (cycle_lighter goes n wide narrow wider t s safe_t.sound safe_s.sound lighter)
      (ap (λ i. i + 1) same)
      (turn_all_tied first t safe_t l.count l.messages tied_l)
      (turn_all_tied second s safe_s m.count m.messages tied_m)
      (subst (λ i. AllZip NoLater (map (note (word first t) (l.count + 1)) l.messages) (map (note (word second s) (i + 1)) m.messages)) same
      (pairs_on goes n wide narrow wider t s safe_t safe_s lighter l.count l.messages m.messages tied_l (subst (λ i. AllByRecursion (Tied s i) m.messages) (sym same) tied_m) each))

-- THE TWO RUNS

each_itself : (f : Message → Message) → ((m : Message) → NoLater (f m) m) → (ms : List Message) → AllZip NoLater (map f ms) ms
each_itself f h [] = tt
each_itself f h (m ∷ ms) = (h m, each_itself f h ms)

each_same : (ms : List Message) → AllZip NoLater ms ms
each_same [] = tt
each_same (m ∷ ms) =
    (record { row = refl; figures = refl; start = refl; sooner = λ la lb i h. (i, h, omega arith, refl) }, each_same ms)

no_later_ended : (r now : ℕ) (m : Message) → NoLater (end_on r now m) m
no_later_ended r now m = record { row = refl; figures = refl; start = refl; sooner = λ la lb i h. (i, h, omega arith, refl) }

module _ {P : Type 0} (goes : P → Order) (rows limit : ℕ) where
  -- calls in two parts
  entered_more : (calls more : List (Call P)) (s : State P) (l : Ledger)
      → entered rows l (history goes rows limit s (calls ++ more)) ≡ entered rows (entered rows l (history goes rows limit s calls)) (history goes rows limit (run goes rows limit s calls) more)
  unfolding entered history run
  entered_more [] more s l = refl
  entered_more (call ∷ calls) more s l = entered_more calls more (after goes rows limit s call) (enter rows l call (answer goes rows limit s call))

  -- cycles alone
  entered_turns : (reports : List Report) (s : State P) (l : Ledger) → entered rows l (history goes rows limit s (map next reports)) ≡ turns (rules_of goes rows limit s) (length reports) s.slots l
  unfolding entered history step turns
  entered_turns [] s l = refl
  entered_turns (x ∷ reports) s l =
      entered_turns reports (after goes rows limit s (next x)) (turn rows (word (rules_of goes rows limit s) s.slots) l)

  module _ (s : State P) (l : Ledger) (sure : Sure goes rows limit s l) (xs ys : List Report) (same : length xs ≡ length ys) where
    abbrev without : Ledger
    without = entered rows l (history goes rows limit s (map next ys))

    -- with the ledger that a made relief leads to
    abbrev After : Ledger → Step P → Type 0
    After l⁺ st = AllZip NoLater (entered rows (by_answer l⁺ l st.answer) (history goes rows limit st.state (map next xs))).messages without.messages

    abbrev Compared : Call P → Type 0
    Compared relief =
        AllZip NoLater (entered rows (enter {P = P} rows l relief (answer goes rows limit s relief)) (history goes rows limit (after goes rows limit s relief) (map next xs))).messages without.messages

    compared : (s⁺ : State P) (l⁺ : Ledger) → AllZip NoLater (turns (rules_of goes rows limit s⁺) (length xs) s⁺.slots l⁺).messages (turns (rules_of goes rows limit s) (length xs) s.slots l).messages
        → AllZip NoLater (entered rows l⁺ (history goes rows limit s⁺ (map next xs))).messages without.messages
    compared s⁺ l⁺ h =
        subst₂ (λ a b. AllZip NoLater a.messages b.messages) (sym (entered_turns xs s⁺ l⁺))
        (ap (λ k. turns (rules_of goes rows limit s) k s.slots l) same ∙ sym (entered_turns ys s l)) h

    after_drop : (r : ℕ) → is_made (answer goes rows limit s (drop r)) ≡ true
        → Compared (drop r)
    unfolding step outcome
    after_drop r h = go (checks goes rows limit s (drop r)) refl h
      where
        s⁺ : State P
        s⁺ = with_slots goes rows limit s (put r None s.slots)

        st : Option Told → Step P
        st c = settle s (elim c as (λ _. Outcome P) [ Some told ↦ Err told | None ↦ Ok s⁺ ])

        go : (c : Option Told) → checks goes rows limit s (drop r) ≡ c → is_made (st c).answer ≡ true → After (end r l) (st c)
        go (Some told) is h = absurd (false≢true h)
        go None is h =
            let sure⁺ = made_drop goes rows limit s l sure r s⁺ is refl in
            compared s⁺ (end r l)
            (turns_no_later (goes s.policy) rows s.window s.window (le_refl s.window) (length xs) s⁺.slots s.slots (end r l) l sure⁺.safe sure.safe
            (lighter_without r s.slots) refl sure⁺.tie.tied sure.tie.tied (each_itself (end_on r l.count) (no_later_ended r l.count) l.messages))

    after_window : (w : ℕ) → leb s.window w ≡ true → is_made (answer goes rows limit s (set_window w)) ≡ true
        → Compared (set_window w)
    unfolding step outcome
    after_window w wider h = go (leb s.window w) (checks goes rows limit s (set_window w)) refl h
      where
        s⁺ : State P
        s⁺ = with_window goes rows limit s w

        o : Bool → Outcome P
        o b = elim b as (λ _. Outcome P) [ true ↦ Ok s⁺ | false ↦ rehearsed goes rows limit s⁺ ]

        st : Bool → Option Told → Step P
        st b c = settle s (elim c as (λ _. Outcome P) [ Some told ↦ Err told | None ↦ o b ])

        go : (b : Bool) (c : Option Told) → leb s.window w ≡ b → is_made (st b c).answer ≡ true → After (resized w l) (st b c)
        go false c is h = absurd (both_ways _ is wider)
        go true (Some told) is h = absurd (false≢true h)
        go true None is h =
            let sure⁺ = made_window goes rows limit s l sure w s⁺ (ap o is) in
            compared s⁺ (resized w l)
            (turns_no_later (goes s.policy) rows w s.window (leb-true s.window w wider) (length xs) s.slots s.slots (resized w l) l sure⁺.safe sure.safe
            (lighter_itself s.slots) refl sure⁺.tie.tied sure.tie.tied (each_same l.messages))

    after_relief : (relief : Call P) → relieves goes rows limit s relief ≡ true
        → Compared relief
    after_relief (add r f) h = absurd (false≢true h)
    after_relief (alter r f) h = absurd (false≢true h)
    after_relief (drop r) h = after_drop r h
    after_relief (set_window w) h = let parts = and_parts (leb s.window w) _ h in after_window w parts.0 parts.1
    after_relief (set_policy p) h = absurd (false≢true h)
    after_relief (next report) h = absurd (false≢true h)

  pub promise : ((p : P) → Laws (goes p)) → Promise goes rows limit
  unfolding entered history
  promise laws =
      record {
        kept = every_list_kept goes rows limit laws;
        no_later = λ p calls relief h xs ys same.
            let s = run goes rows limit (fresh p) calls in
            let l = ledger_of goes rows limit p calls in
            subst₂ (λ a b. AllZip NoLater a.messages b.messages) (sym (entered_more calls (relief ∷ map next xs) (fresh p) blank)) (sym (entered_more calls (map next ys) (fresh p) blank))
            (after_relief s l (list_kept goes rows limit laws calls (fresh p) blank (sure_fresh goes rows limit p)) xs ys same relief h);
      }
