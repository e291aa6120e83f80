-- The account of one message, and what one cycle does to it. Assumes nothing.
use Rattle.std.proofs.Common.{◌≡◌, ℕ, suc, ◌+◌, ◌-◌, ◌*◌, ◌<◌, ◌≤◌, Bool, true, false, cond, ◌&&◌, eqb, leb, ◌⊎◌, List, [], ◌∷◌, count_by, sym, refl, ap, ◌∙◌, subst, subst₂, inl, inr, ⊎_elim, suc-mul, zero-add, zero-mul, arith}
use Rattle.std.specs.List.{AllByRecursion}
use Rattle.std.proofs.ByRecursion.{All-weaker}
use Rattle.std.proofs.lemmas.List.Sums.{sum_by-cons}
use Rattle.std.proofs.lemmas.Bool.{cases_eq, cases_lt, eq-eqb, ne_eqb, le-leb, and_from, and_left}
use Rattle.std.proofs.lemmas.Bool.Decides.{nat_tests}
use Rattle.engine.specs.declared.row.Figures.{Figures}
use Rattle.engine.specs.declared.row.Row.{Row}
use Rattle.engine.specs.Rows.{released, waits, closed, misses, sound}
use Rattle.rules.specs.Ledger.{releases, release_cycle}
use Rattle.rules.proofs.Numbers.{releases_by_wait, one_less}

-- a message with these figures, added at the count `start`
module _ (f : Figures) (start : ℕ) where
  -- the instance that is scheduled in cycle c, and the last cycle of instance j
  abbrev pub number_in : ℕ → ℕ
  number_in c = releases f (c - start)

  abbrev pub due : ℕ → ℕ
  due j = start + release_cycle f j + (f.deadline - 1)

  abbrev pub how_often : List ℕ → ℕ → ℕ
  how_often noted j = count_by (λ c. eqb (number_in c) j) noted

  abbrev pub how_often_in_time : List ℕ → ℕ → ℕ
  how_often_in_time noted j = count_by (λ c. eqb (number_in c) j && leb c (due j)) noted

  -- scheduled once, and in time
  pub record Done (noted : List ℕ) (j : ℕ) : Type 0 where
    pub once : how_often noted j ≡ 1
    pub in_time : how_often_in_time noted j ≡ 1

  -- instance k waits, and its last cycle is so far away
  pub record Open (noted : List ℕ) (now left k : ℕ) : Type 0 where
    pub some : 1 ≤ k
    pub waits : 0 < left
    pub never : how_often noted k ≡ 0
    pub ahead : now + left ≡ due k

  -- none waits
  pub record Closed (noted : List ℕ) (left k : ℕ) : Type 0 where
    pub idle : left ≡ 0
    pub done : 1 ≤ k → Done noted k

  -- at the count `now`, with so many cycles to the next release, k instances released and so much left of the last one
  pub record Account (noted : List ℕ) (now wait left k : ℕ) : Type 0 where
    pub begun : start ≤ now
    pub place : now + wait ≡ start + f.phase + k * f.period
    pub turned : 1 ≤ k → wait < f.period
    pub before : (j : ℕ) → 1 ≤ j → j < k → Done noted j
    pub last : Open noted now left k ⊎ Closed noted left k
    pub later : (j : ℕ) → k < j → how_often noted j ≡ 0
    pub in_life : AllByRecursion (λ c. (start < c) × (c ≤ now) × (1 ≤ number_in c)) noted

  -- a message that was just added
  pub account_new : Account [] start f.phase 0 0
  account_new =
      record {
        begun = omega arith;
        place = omega (arith, zero-mul f.period);
        turned = λ h. absurd (omega arith);
        before = λ j h l. absurd (omega arith);
        last = inr (record { idle = refl; done = λ h. absurd (omega arith) });
        later = λ j h. refl;
        in_life = tt;
      }

  -- what the account says of the releases
  pub account_number : (noted : List ℕ) (now wait left k : ℕ) → Account noted now wait left k → number_in now ≡ k
  account_number noted now wait left k a =
      let low = a.begun in
      let at = a.place in
      releases_by_wait f (now - start) wait k (omega arith) a.turned

  -- one note more
  module _ (noted : List ℕ) (c i : ℕ) (is : number_in c ≡ i) where
    often_same : how_often (c ∷ noted) i ≡ 1 + how_often noted i
    often_same = sum_by-cons (λ x. cond (eqb (number_in x) i) 1 0) c noted ∙ ap (λ b. cond b 1 0 + how_often noted i) (eq-eqb (number_in c) i is)

    in_time_same : c ≤ due i → how_often_in_time (c ∷ noted) i ≡ 1 + how_often_in_time noted i
    in_time_same h =
        sum_by-cons (λ x. cond (eqb (number_in x) i && leb x (due i)) 1 0) c noted
        ∙ ap (λ b. cond b 1 0 + how_often_in_time noted i) (and_from _ _ (eq-eqb (number_in c) i is) (le-leb c (due i) h))

    module _ (j : ℕ) (other : i ≡ j → ⊥) where
      apart : eqb (number_in c) j ≡ false
      apart = ne_eqb (number_in c) j (λ e. other (sym is ∙ e))

      often_other : how_often (c ∷ noted) j ≡ how_often noted j
      often_other = sum_by-cons (λ x. cond (eqb (number_in x) j) 1 0) c noted ∙ ap (λ b. cond b 1 0 + how_often noted j) apart ∙ zero-add (how_often noted j)

      in_time_other : how_often_in_time (c ∷ noted) j ≡ how_often_in_time noted j
      in_time_other =
          sum_by-cons (λ x. cond (eqb (number_in x) j && leb x (due j)) 1 0) c noted
          ∙ ap (λ b. cond b 1 0 + how_often_in_time noted j) (and_left (eqb (number_in c) j) (leb c (due j)) apart)
          ∙ zero-add (how_often_in_time noted j)

      done_other : Done noted j → Done (c ∷ noted) j
      done_other d = record { once = often_other ∙ d.once; in_time = in_time_other ∙ d.in_time }

  -- what was scheduled never is scheduled in time
  in_time_le : (noted : List ℕ) (j : ℕ) → how_often_in_time noted j ≤ how_often noted j
  in_time_le [] j = omega arith
  in_time_le (c ∷ noted) j =
      let a = sum_by-cons (λ x. cond (eqb (number_in x) j) 1 0) c noted in
      let b = sum_by-cons (λ x. cond (eqb (number_in x) j && leb x (due j)) 1 0) c noted in
      let before = in_time_le noted j in
      let here : cond (eqb (number_in c) j && leb c (due j)) 1 0 ≤ cond (eqb (number_in c) j) 1 0 = grind (arith, nat_tests) in
      omega arith

  -- the first note of an instance, made in time
  first_done : (noted : List ℕ) (c i : ℕ) → number_in c ≡ i → c ≤ due i → how_often noted i ≡ 0 → Done (c ∷ noted) i
  first_done noted c i is h none =
      record {
        once = omega (arith, often_same noted c i is);
        in_time = omega (arith, in_time_same noted c i is h, in_time_le noted i);
      }

  longer : (noted : List ℕ) (now : ℕ) → AllByRecursion (λ c. (start < c) × (c ≤ now) × (1 ≤ number_in c)) noted → AllByRecursion (λ c. (start < c) × (c ≤ now + 1) × (1 ≤ number_in c)) noted
  longer noted now = All-weaker _ _ (λ c h. (h.0, omega (arith, h.1), h.2)) noted

  -- ONE CYCLE: an instance is released or not, and the message is scheduled or not
  module _ (urgent : f.deadline ≤ f.period) (some_deadline : 1 ≤ f.deadline) (noted : List ℕ) (now left k : ℕ) where
    -- when the next is released, the last is done
    pub done_by_then : Account noted now 0 left k → 1 ≤ k → Done noted k
    done_by_then a h = go a.last
      where
        go : Open noted now left k ⊎ Closed noted left k → Done noted k
        go (inl o) = absurd (omega (arith, o.ahead, o.waits, a.place, one_less k f.period h))
        go (inr c) = c.done h

    before_more : Account noted now 0 left k → (j : ℕ) → 1 ≤ j → j < suc k → Done noted j
    before_more a j h l =
        ⊎_elim (λ (same : j ≡ k). subst (Done noted) (sym same) (done_by_then a (omega arith))) (λ (other : j ≡ k → ⊥). a.before j h (omega arith)) (cases_eq j k)

    number_released : Account noted now 0 left k → number_in (now + 1) ≡ suc k
    number_released a =
        releases_by_wait f (now + 1 - start) (f.period - 1) (suc k) (omega (arith, a.begun, a.place, suc-mul k f.period)) (λ _. omega arith)

    due_released : Account noted now 0 left k → due (suc k) ≡ now + f.deadline
    due_released a =
        let same : suc k - 1 ≡ k = omega arith in
        let turns : (suc k - 1) * f.period ≡ k * f.period = ap (λ x. x * f.period) same in
        omega (arith, a.place)

    pub released_scheduled : Account noted now 0 left k → Account ((now + 1) ∷ noted) (now + 1) (f.period - 1) 0 (suc k)
    released_scheduled a =
        let is = number_released a in
        let c : ℕ = now + 1 in
        record {
          begun = omega (arith, a.begun);
          place = omega (arith, a.place, suc-mul k f.period);
          turned = λ _. omega arith;
          before = λ j h l. done_other noted c (suc k) is j (λ e. omega arith) (before_more a j h l);
          last = inr (record { idle = refl; done = λ _. first_done noted c (suc k) is (omega (arith, due_released a)) (a.later (suc k) (omega arith)) });
          later = λ j h. often_other noted c (suc k) is j (λ e. omega arith) ∙ a.later j (omega arith);
          in_life = ((omega (arith, a.begun), omega arith, omega (arith, is)), longer noted now a.in_life);
        }

    pub released_passed : Account noted now 0 left k → (f.deadline ≡ 1 → ⊥) → Account noted (now + 1) (f.period - 1) (f.deadline - 1) (suc k)
    released_passed a not_last =
        record {
          begun = omega (arith, a.begun);
          place = omega (arith, a.place, suc-mul k f.period);
          turned = λ _. omega arith;
          before = before_more a;
          last = inl (record { some = omega arith; waits = omega arith; never = a.later (suc k) (omega arith); ahead = omega (arith, due_released a) });
          later = λ j h. a.later j (omega arith);
          in_life = longer noted now a.in_life;
        }

    module _ (wait : ℕ) (on : 0 < wait) where
      number_on : Account noted now wait left k → number_in (now + 1) ≡ k
      number_on a = releases_by_wait f (now + 1 - start) (wait - 1) k (omega (arith, a.begun, a.place)) (λ h. omega (arith, a.turned h))

      pub on_scheduled : 0 < left → Account noted now wait left k → Account ((now + 1) ∷ noted) (now + 1) (wait - 1) 0 k
      on_scheduled has a = go a.last
        where
          go : Open noted now left k ⊎ Closed noted left k → Account ((now + 1) ∷ noted) (now + 1) (wait - 1) 0 k
          go (inr c) = absurd (omega (arith, c.idle))
          go (inl o) =
              let is = number_on a in
              let c : ℕ = now + 1 in
              record {
                begun = omega (arith, a.begun);
                place = omega (arith, a.place);
                turned = λ h. omega (arith, a.turned h);
                before = λ j h l. done_other noted c k is j (λ e. omega arith) (a.before j h l);
                last = inr (record { idle = refl; done = λ _. first_done noted c k is (omega (arith, o.ahead)) o.never });
                later = λ j h. often_other noted c k is j (λ e. omega arith) ∙ a.later j h;
                in_life = ((omega (arith, a.begun), omega arith, omega (arith, is, o.some)), longer noted now a.in_life);
              }

      pub on_passed : (left ≡ 1 → ⊥) → Account noted now wait left k → Account noted (now + 1) (wait - 1) (left - 1) k
      on_passed not_last a =
          record {
            begun = omega (arith, a.begun);
            place = omega (arith, a.place);
            turned = λ h. omega (arith, a.turned h);
            before = a.before;
            last = go a.last;
            later = a.later;
            in_life = longer noted now a.in_life;
          }
        where
          go : Open noted now left k ⊎ Closed noted left k → Open noted (now + 1) (left - 1) k ⊎ Closed noted (left - 1) k
          go (inl o) = inl (record { some = o.some; waits = omega (arith, o.waits); never = o.never; ahead = omega (arith, o.ahead, o.waits) })
          go (inr c) = inr (record { idle = omega (arith, c.idle); done = c.done })

-- ONE ROW through one cycle in which it was scheduled or not, and was not late
module _ (start : ℕ) (noted : List ℕ) (now k : ℕ) (x : Row) (fine : sound x ≡ true) where
  abbrev held : Figures
  held = x.figures

  abbrev Before : Type 0
  Before = Account held start noted now x.wait x.left k

  -- the account after the cycle, with the number of instances released by then
  abbrev pub Turned : Bool → Type 0
  Turned s =
      (k' : ℕ) × Account held start (cond s ((now + 1) ∷ noted) noted) (now + 1) (closed s (released x)).wait (closed s (released x)).left k'

  urgent : held.deadline ≤ held.period
  urgent = grind (arith, nat_tests)

  some_deadline : 1 ≤ held.deadline
  some_deadline = grind (arith, nat_tests)

  module _ (over : x.wait ≡ 0) where
    wait_new : (s : Bool) → (closed s (released x)).wait ≡ held.period - 1
    wait_new s = grind (arith, nat_tests)

    left_new : (s : Bool) → (closed s (released x)).left ≡ cond s 0 (held.deadline - 1)
    left_new s = grind (arith, nat_tests)

    turned_new : (s : Bool) → misses s (released x) ≡ false → Before → Turned s
    turned_new true on a = (
      suc k,
      subst₂ (λ w l. Account held start ((now + 1) ∷ noted) (now + 1) w l (suc k)) (sym (wait_new true)) (sym (left_new true))
          (released_scheduled held start urgent some_deadline noted now x.left k (subst (λ w. Account held start noted now w x.left k) over a)),
    )
    turned_new false on a = (
      suc k,
      subst₂ (λ w l. Account held start noted (now + 1) w l (suc k)) (sym (wait_new false)) (sym (left_new false))
          (released_passed held start urgent some_deadline noted now x.left k (subst (λ w. Account held start noted now w x.left k) over a) (λ e. grind (arith, nat_tests))),
    )

  module _ (on : 0 < x.wait) where
    wait_on : (s : Bool) → (closed s (released x)).wait ≡ x.wait - 1
    wait_on s = grind (arith, nat_tests)

    left_on : (s : Bool) → (closed s (released x)).left ≡ cond s 0 (x.left - 1)
    left_on s = grind (arith, nat_tests)

    turned_on : (s : Bool) → misses s (released x) ≡ false → (s ≡ true → waits (released x) ≡ true) → Before → Turned s
    turned_on true ok served a =
        let w = served refl in (
          k,
          subst₂ (λ w l. Account held start ((now + 1) ∷ noted) (now + 1) w l k) (sym (wait_on true)) (sym (left_on true))
              (on_scheduled held start urgent some_deadline noted now x.left k x.wait on (grind (arith, nat_tests)) a),
        )
    turned_on false ok served a = (
      k,
      subst₂ (λ w l. Account held start noted (now + 1) w l k) (sym (wait_on false)) (sym (left_on false))
          (on_passed held start urgent some_deadline noted now x.left k x.wait on (λ e. grind (arith, nat_tests)) a),
    )

  pub turned_row : (s : Bool) → misses s (released x) ≡ false → (s ≡ true → waits (released x) ≡ true) → Before → Turned s
  turned_row s ok served a =
      ⊎_elim (λ (on : 0 < x.wait). turned_on on s ok served a) (λ (over : x.wait ≤ 0). turned_new (omega arith) s ok a) (cases_lt 0 x.wait)
