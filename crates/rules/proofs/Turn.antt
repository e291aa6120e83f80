-- One cycle of a calm table keeps the tie with the ledger. Assumes nothing.
use Rattle.std.proofs.Common.{◌≡◌, ℕ, zero, suc, ◌+◌, ◌-◌, ◌*◌, ◌^◌, ◌<◌, ◌≤◌, Bool, true, false, cond, not, ◌&&◌, eqb, ltb, leb, ◌⊎◌, List, [], ◌∷◌, ◌++◌, map, length, get_or, is_some, Some, None, sum_by, count_by, Option, sym, refl, ap, ◌∙◌, subst, ap₂, inl, inr, ⊎_elim, one-mul, zero-add, zero-mul, arith}
use Rattle.std.specs.List.{range_with_len, AllByRecursion}
use Rattle.std.specs.Option.{option_map}
use Rattle.std.proofs.lemmas.List.FromFn.{length-map-range_with_len, get_or-map-range_with_len}
use Rattle.std.proofs.ByRecursion.{All-weaker, All-map}
use Rattle.std.proofs.lemmas.List.{length_push, get_or_push, get_or_append_left}
use Rattle.std.proofs.lemmas.List.Sums.{sum_by-cons}
use Rattle.std.proofs.lemmas.Bool.{cases_Bool, cases_eq, cases_lt, false≢true, eq-eqb, ne_eqb, eqb-true, lt-ltb, le-leb, or_from, or_left, or_right, and_parts, and_from, not_from_false}
use Rattle.std.proofs.lemmas.Bool.Decides.{nat_tests}
use Rattle.bus.specs.Rows.{member, members, word_of}
use Rattle.bus.proofs.Words.{get_or_members, members_word_of, word_of_below}
use Rattle.orders.specs.Laws.{Laws}
use Rattle.engine.specs.declared.row.Row.{Row}
use Rattle.engine.specs.Rows.{instance_of, waits, closed, misses}
use Rattle.engine.specs.Rows.{released as row_released}
use Rattle.engine.specs.Comparison.{Sound, SoundSlot, Calm}
use Rattle.engine.specs.Cycle.{Slots, Rules, used_and, release, waiters, fits, scheduled, cycle, late, word, after}
use Rattle.engine.specs.Load.{units, units_of}
use Rattle.engine.proofs.Lighter.{released_figures}
use Rattle.engine.proofs.Rehearsed.{Within}
use Rattle.engine.proofs.WindowSum.{window_kept}
use Rattle.engine.proofs.Tests.{some_is_none}
use Rattle.rules.specs.Calls.{is_used}
use Rattle.rules.specs.Ledger.{Message, Ledger, is_live, live_on, ready_on, releases, instance_in, any, word_fits, note, turn, noted_in, one_if}
use Rattle.rules.specs.Promise.{units_in}
use Rattle.rules.proofs.Accounts.{Account, Turned, turned_row}
use Rattle.rules.proofs.Sums.{sum_like, sum_map, sum_zero, sum_plus, sum_same, all_each, every_from}
use Rattle.rules.proofs.Ties.{Held, TiedBy, Tied, Tie}

-- THE WORD has exactly the scheduled rows

module _ (rules : Rules) (t : Slots) where
  abbrev pub chosen : ℕ → Bool
  chosen = scheduled rules (release t)

  abbrev flags : List Bool
  flags = map chosen (range_with_len 0 rules.rows)

  pub member_scheduled : (r : ℕ) → r < rules.rows → member (word rules t) r ≡ chosen r
  unfolding word
  member_scheduled r h =
      let n = rules.rows in
      let long : length flags ≡ n = length-map-range_with_len chosen 0 n in
      sym (get_or_members n (word_of flags) r h)
      ∙ ap (λ k. get_or (members k (word_of flags)) r false) (sym long)
      ∙ ap (λ bs. get_or bs r false) (members_word_of flags)
      ∙ get_or-map-range_with_len chosen 0 n r r false h (omega arith)

  pub word_below : word rules t < 2 ^ rules.rows
  unfolding word
  word_below = subst (λ m. word_of flags < 2 ^ m) (length-map-range_with_len chosen 0 rules.rows) (word_of_below flags)

-- what is scheduled waits
chosen_waits : (rules : Rules) (t : Slots) (r : ℕ) (x : Row) → t r ≡ Some x → chosen rules t r ≡ true → waits (row_released x) ≡ true
chosen_waits rules t r x is c =
    (and_parts (waits (row_released x)) _ (subst (λ a. used_and (λ row. waits row && fits rules.goes rules.window (waiters rules.rows (release t)) (instance_of r row)) (option_map row_released a) ≡ true) is c)).0

-- a cycle keeps which rows are in use
used_after : (rules : Rules) (t : Slots) (r : ℕ) → is_used (cycle rules t r) ≡ is_used (t r)
unfolding cycle
used_after rules t r = slot (chosen rules t r) (t r)
  where
    slot : (s : Bool) (a : Option Row) → is_used (option_map (closed s) (option_map row_released a)) ≡ is_used a
    slot s None = refl
    slot s (Some x) = refl

module _ (rules : Rules) (t : Slots) (within : Within rules.rows t) (fine : Sound t) (calm : Calm rules t) where
  -- no row is late in this cycle
  in_time : (r : ℕ) (x : Row) → t r ≡ Some x → misses (chosen rules t r) (row_released x) ≡ false
  unfolding late after
  in_time r x is = subst (λ a. used_and (misses (chosen rules t r)) (option_map row_released a) ≡ false) is (calm 0 r)

  inside : (r : ℕ) (x : Row) → t r ≡ Some x → r < rules.rows
  inside r x is =
      ⊎_elim (λ (low : r < rules.rows). low) (λ (past : rules.rows ≤ r). absurd (some_is_none (sym is ∙ within r past))) (cases_lt r rules.rows)

  abbrev w : ℕ
  w = word rules t

  -- ONE MESSAGE through the cycle
  module _ (now : ℕ) (m : Message) where
    -- of a live message: what it holds, and its account after the cycle
    pub record LiveTurn : Type 0 where
      pub x : Row
      pub held : t m.row ≡ Some x
      pub same : m.figures ≡ x.figures
      pub noted : member w m.row ≡ chosen rules t m.row
      pub k : ℕ
      pub was : Account x.figures m.start m.noted now x.wait x.left k
      pub turned : Turned m.start m.noted now k x (subst SoundSlot held (fine m.row)) (chosen rules t m.row)

    pub live_turn : Held m now (t m.row) → LiveTurn
    live_turn h = go (t m.row) refl h
      where
        go : (a : Option Row) → t m.row ≡ a → Held m now a → LiveTurn
        go None is h = absurd h
        go (Some x) is h =
            record {
              x = x;
              held = is;
              same = h.0;
              noted = member_scheduled rules t m.row (inside m.row x is);
              k = h.1.0;
              was = h.1.1;
              turned = turned_row m.start m.noted now h.1.0 x (subst SoundSlot is (fine m.row)) (chosen rules t m.row) (in_time m.row x is) (chosen_waits rules t m.row x is) h.1.1;
            }

    abbrev m⁺ : Message
    m⁺ = note w (now + 1) m

    pub turn_tied : Tied t now m → Tied (cycle rules t) (now + 1) m⁺
    unfolding cycle
    turn_tied h = go m.ended h
      where
        marked : Option ℕ → Message
        marked e =
            record { row = m.row; figures = m.figures; start = m.start; ended = e; noted = cond (not (is_some e) && member w m.row) ((now + 1) ∷ m.noted) m.noted }

        go : (e : Option ℕ) → TiedBy e t now m → TiedBy e (cycle rules t) (now + 1) (marked e)
        go (Some c) h = (h.0, h.1, h.2, omega (arith, h.3), h.4)
        go None h =
            let l = live_turn h in
            let s = chosen rules t m.row in
            let y = closed s (row_released l.x) in
            let figures : y.figures ≡ l.x.figures = released_figures l.x in
            subst (Held (marked None) (now + 1)) (sym (ap (λ a. option_map (closed s) (option_map row_released a)) l.held)) (
              l.same ∙ sym figures,
              (
                l.turned.0,
                subst (λ f. Account f m.start (marked None).noted (now + 1) y.wait y.left l.turned.0) (sym figures)
                    (subst (λ b. Account l.x.figures m.start (cond b ((now + 1) ∷ m.noted) m.noted) (now + 1) y.wait y.left l.turned.0) (sym l.noted) l.turned.1),
              ),
            )

    -- a live message that is scheduled has an instance to schedule
    pub ready_in : Held m now (t m.row) → chosen rules t m.row ≡ true → 1 ≤ instance_in m (now + 1)
    ready_in h is =
        let l = live_turn h in
        let c : ℕ = now + 1 in
        let InLife : ℕ → Type 0 = λ i. (m.start < i) × (i ≤ c) × (1 ≤ releases l.x.figures (i - m.start)) in
        let life : AllByRecursion InLife (c ∷ m.noted) = subst (λ b. AllByRecursion InLife (cond b (c ∷ m.noted) m.noted)) is l.turned.1.in_life in
        subst (λ f. 1 ≤ releases f (c - m.start)) (sym l.same) life.0.2

    -- what it was scheduled in so far
    pub noted_by : Tied t now m → AllByRecursion (λ c. c ≤ now) m.noted
    noted_by h = go m.ended h
      where
        go : (e : Option ℕ) → TiedBy e t now m → AllByRecursion (λ c. c ≤ now) m.noted
        go (Some e) h = All-weaker _ _ (λ c k. omega (arith, k.1, h.3)) m.noted h.4.in_life
        go None h = All-weaker _ _ (λ c k. k.1) m.noted (live_turn h).was.in_life

    ready_like : (r : ℕ) → chosen rules t r ≡ true → Tied t now m → ready_on r (now + 1) m ≡ live_on r m
    ready_like r is h = go m.ended h (cases_eq m.row r)
      where
        go : (e : Option ℕ) → TiedBy e t now m → (m.row ≡ r) ⊎ (m.row ≡ r → ⊥)
            → ((not (is_some e) && eqb m.row r) && leb 1 (instance_in m (now + 1))) ≡ (not (is_some e) && eqb m.row r)
        go (Some e) h w = refl
        go None h (inl same) =
            let here : eqb m.row r ≡ true = eq-eqb m.row r same in
            let some : leb 1 (instance_in m (now + 1)) ≡ true = le-leb 1 _ (ready_in h (ap (chosen rules t) same ∙ is)) in
            ap₂ (λ a b. (true && a) && b) here some ∙ sym here
        go None h (inr apart) =
            let here : eqb m.row r ≡ false = ne_eqb m.row r apart in
            ap (λ a. (true && a) && leb 1 (instance_in m (now + 1))) here ∙ sym here

    -- a live message's row, as the window counts it
    units_like : (n : ℕ) → Tied t now m → live_on n m ≡ true → m.figures.duration ≡ units_of (release t n)
    units_like n h = go m.ended h
      where
        go : (e : Option ℕ) → TiedBy e t now m → (not (is_some e) && eqb m.row n) ≡ true → m.figures.duration ≡ units_of (release t n)
        go (Some e) h is = absurd (false≢true is)
        go None h is =
            let l = live_turn h in
            let row : m.row ≡ n = eqb-true m.row n is in
            let slot : t n ≡ Some l.x = ap t (sym row) ∙ l.held in
            ap (λ f. f.duration) (l.same ∙ sym (released_figures l.x)) ∙ sym (ap (λ a. units_of (option_map row_released a)) slot)

    -- the messages noted in this cycle are the live ones whose row is scheduled
    abbrev part : ℕ → Bool
    part n = is_live m && (chosen rules t m.row && ltb m.row n)

    noted_now : Tied t now m → noted_in (now + 1) m⁺ ≡ part rules.rows
    noted_now h = go m.ended h (noted_by h)
      where
        none_yet : (cs : List ℕ) → AllByRecursion (λ c. c ≤ now) cs → count_by (eqb (now + 1)) cs ≡ 0
        none_yet [] k = refl
        none_yet (c ∷ cs) k =
            let other : one_if (eqb (now + 1) c) ≡ 0 = ap one_if (ne_eqb (now + 1) c (λ e. omega (arith, k.0))) in
            omega (arith, sum_by-cons (λ i. one_if (eqb (now + 1) i)) c cs, none_yet cs k.1)

        now_noted : (b : Bool) → count_by (eqb (now + 1)) m.noted ≡ 0 → ltb 0 (count_by (eqb (now + 1)) (cond b ((now + 1) ∷ m.noted) m.noted)) ≡ b
        now_noted false none = ap (ltb 0) none
        now_noted true none =
            let same : one_if (eqb (now + 1) (now + 1)) ≡ 1 = ap one_if (eq-eqb (now + 1) (now + 1) refl) in
            ap (ltb 0) (sum_by-cons (λ i. one_if (eqb (now + 1) i)) (now + 1) m.noted ∙ ap₂ ◌+◌ same none)

        go : (e : Option ℕ) → TiedBy e t now m → AllByRecursion (λ c. c ≤ now) m.noted
            → ltb 0 (count_by (eqb (now + 1)) (cond (not (is_some e) && member w m.row) ((now + 1) ∷ m.noted) m.noted)) ≡ (not (is_some e) && (chosen rules t m.row && ltb m.row rules.rows))
        go (Some e) h k = now_noted false (none_yet m.noted k)
        go None h k =
            let l = live_turn h in
            let low : ltb m.row rules.rows ≡ true = lt-ltb m.row rules.rows (inside m.row l.x l.held) in
            now_noted (member w m.row) (none_yet m.noted k) ∙ l.noted ∙ sym (ap (λ b. chosen rules t m.row && b) low ∙ both (chosen rules t m.row))
          where
            both : (b : Bool) → (b && true) ≡ b
            both true = refl
            both false = refl

    -- and earlier notes stay
    noted_before : (c : ℕ) → c ≤ now → noted_in c m⁺ ≡ noted_in c m
    noted_before c low = go (is_live m && member w m.row)
      where
        go : (b : Bool) → ltb 0 (count_by (eqb c) (cond b ((now + 1) ∷ m.noted) m.noted)) ≡ ltb 0 (count_by (eqb c) m.noted)
        go false = refl
        go true =
            let other : one_if (eqb c (now + 1)) ≡ 0 = ap one_if (ne_eqb c (now + 1) (λ e. omega arith)) in
            ap (ltb 0) (sum_by-cons (λ i. one_if (eqb c i)) (now + 1) m.noted ∙ ap (λ n. n + count_by (eqb c) m.noted) other ∙ zero-add _)

    -- one row more
    part_more : (n : ℕ) (u : ℕ) → cond (part (suc n)) u 0 ≡ cond (part n) u 0 + cond (live_on n m && chosen rules t n) u 0
    part_more n u = go (is_live m) (cases_eq m.row n)
      where
        go : (b : Bool) → (m.row ≡ n) ⊎ (m.row ≡ n → ⊥)
            → cond (b && (chosen rules t m.row && ltb m.row (suc n))) u 0 ≡ cond (b && (chosen rules t m.row && ltb m.row n)) u 0 + cond ((b && eqb m.row n) && chosen rules t n) u 0
        go false h = omega arith
        go true (inl same) =
            let is : chosen rules t m.row ≡ chosen rules t n = ap (chosen rules t) same in
            grind (arith, nat_tests)
        go true (inr apart) = grind (arith, nat_tests)

  -- THE LEDGER after the cycle
  module _ (l : Ledger) (tie : Tie t l) where
    abbrev ms : List Message
    ms = l.messages

    abbrev c⁺ : ℕ
    c⁺ = l.count + 1

    used_when_chosen : (r : ℕ) → chosen rules t r ≡ true → is_used (t r) ≡ true
    used_when_chosen r = slot (t r)
      where
        slot : (a : Option Row) → used_and (λ row. waits row && fits rules.goes rules.window (waiters rules.rows (release t)) (instance_of r row)) (option_map row_released a) ≡ true → is_used a ≡ true
        slot None e = e
        slot (Some x) e = refl

    any_ready : (r : ℕ) → chosen rules t r ≡ true → any (ready_on r c⁺) ms ≡ true
    any_ready r is =
        ap (ltb 0)
        (sum_like _ _ ms (All-weaker _ _ (λ m h. ap one_if (ready_like l.count m r is h)) ms tie.tied) ∙ tie.counts r ∙ ap one_if (used_when_chosen r is))

    fits_word : word_fits rules.rows w c⁺ ms ≡ true
    fits_word =
        and_from _ _ (lt-ltb w (2 ^ rules.rows) (word_below rules t))
        (every_from rules.rows _
        (λ r low. ⊎_elim
        (λ (yes_r : chosen rules t r ≡ true). or_right (not (member w r)) _ (any_ready r yes_r))
        (λ (not_r : chosen rules t r ≡ false). or_left (not (member w r)) _ (not_from_false _ (member_scheduled rules t r low ∙ not_r)))
        (cases_Bool (chosen rules t r))))

    abbrev taken : ℕ → ℕ
    taken n = sum_by (λ m. cond (part l.count m n) m.figures.duration 0) ms

    row_units : (n : ℕ) → sum_by (λ m. cond (live_on n m && chosen rules t n) m.figures.duration 0) ms ≤ cond (chosen rules t n) (units_of (release t n)) 0
    row_units n = go (chosen rules t n) refl
      where
        u : ℕ
        u = units_of (release t n)

        at_most : (b : Bool) → one_if b * u ≤ u
        at_most true = omega (arith, one-mul u)
        at_most false = omega (arith, zero-mul u)

        go : (b : Bool) → chosen rules t n ≡ b → sum_by (λ m. cond (live_on n m && b) m.figures.duration 0) ms ≤ cond b u 0
        go true is =
            let all = sum_like (λ m. cond (live_on n m && true) m.figures.duration 0) (λ m. cond (live_on n m) m.figures.duration 0) ms (all_each _ (λ m. grind (arith, nat_tests)) ms) in
            let same = sum_same (live_on n) (λ m. m.figures.duration) u ms (All-weaker _ _ (λ m h. units_like l.count m n h) ms tie.tied) in
            let few : count_by (live_on n) ms * u ≡ one_if (is_used (t n)) * u = ap (λ k. k * u) (tie.counts n) in
            omega (arith, at_most (is_used (t n)))
        go false is =
            let none = sum_like (λ m. cond (live_on n m && false) m.figures.duration 0) (λ m. 0) ms (all_each _ (λ m. grind (arith, nat_tests)) ms) in
            omega (arith, sum_zero ms)

    taken_units : (n : ℕ) → taken n ≤ units (chosen rules t) (release t) n
    unfolding units
    taken_units zero =
        let none = sum_like (λ m. cond (part l.count m 0) m.figures.duration 0) (λ m. 0) ms (all_each _ (λ m. grind (arith, nat_tests)) ms) in
        omega (arith, sum_zero ms)
    taken_units (suc n) =
        let split = sum_like _ _ ms (all_each _ (λ m. part_more l.count m n m.figures.duration) ms) in
        let two = sum_plus (λ m. cond (part l.count m n) m.figures.duration 0) (λ m. cond (live_on n m && chosen rules t n) m.figures.duration 0) ms in
        omega (arith, taken_units n, row_units n)

    module _ (laws : Laws rules.goes) (same_window : l.window ≡ rules.window) where
      units_now : units_in c⁺ (map (note w c⁺) ms) ≤ l.window
      units_now =
          let moved = sum_map (λ m. cond (noted_in c⁺ m) m.figures.duration 0) (note w c⁺) ms in
          let these = sum_like (λ m. cond (noted_in c⁺ (note w c⁺ m)) m.figures.duration 0) (λ m. cond (part l.count m rules.rows) m.figures.duration 0) ms (All-weaker _ _ (λ m h. ap (λ b. cond b m.figures.duration 0) (noted_now l.count m h)) ms tie.tied) in
          omega (arith, taken_units rules.rows, window_kept rules laws t)

      units_before : (c : ℕ) → c ≤ l.count → units_in c (map (note w c⁺) ms) ≡ units_in c ms
      units_before c low =
          sum_map (λ m. cond (noted_in c m) m.figures.duration 0) (note w c⁺) ms
          ∙ sum_like _ _ ms (all_each _ (λ m. ap (λ b. cond b m.figures.duration 0) (noted_before l.count m c low)) ms)

      turn_window : (c : ℕ) → 1 ≤ c → c ≤ c⁺ → units_in c (map (note w c⁺) ms) ≤ get_or (l.windows ++ l.window ∷ []) (c - 1) 0
      turn_window c low high =
          ⊎_elim
          (λ (same : c ≡ c⁺).
          let here : get_or (l.windows ++ l.window ∷ []) (c - 1) 0 ≡ l.window = get_or_push l.windows l.window 0 (c - 1) (omega (arith, tie.long)) in
          let sums : units_in c (map (note w c⁺) ms) ≡ units_in c⁺ (map (note w c⁺) ms) = ap (λ i. units_in i (map (note w c⁺) ms)) same in
          omega (arith, units_now))
          (λ (other : c ≡ c⁺ → ⊥).
          let there : get_or (l.windows ++ l.window ∷ []) (c - 1) 0 ≡ get_or l.windows (c - 1) 0 = get_or_append_left l.windows (l.window ∷ []) 0 (c - 1) (omega (arith, tie.long)) in
          omega (arith, units_before c (omega arith), tie.in_window c low (omega arith)))
          (cases_eq c c⁺)

      pub turn_tie : Tie (cycle rules t) (turn rules.rows w l)
      turn_tie =
          record {
            unbroken = or_from _ _ tie.unbroken (ap not fits_word);
            counts = λ r. sum_map (λ m. cond (live_on r m) 1 0) (note w c⁺) ms ∙ tie.counts r ∙ ap one_if (sym (used_after rules t r));
            tied = All-map (Tied (cycle rules t) c⁺) (note w c⁺) ms (All-weaker _ _ (turn_tied l.count) ms tie.tied);
            long = length_push l.windows l.window ∙ ap (λ n. n + 1) tie.long;
            in_window = turn_window;
          }
