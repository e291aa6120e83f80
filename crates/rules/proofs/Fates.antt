-- From the account of a message to the fates of its instances. Assumes nothing.
use Rattle.std.proofs.Common.{◌≡◌, ℕ, zero, suc, ◌+◌, ◌<◌, ◌≤◌, Bool, true, false, not, ◌&&◌, eqb, ltb, ◌⊎◌, is_some, Some, None, Option, sym, refl, ap, subst, inl, inr, ⊎_elim, arith}
use Rattle.std.proofs.lemmas.Bool.{cases_eq}
use Rattle.std.proofs.lemmas.Bool.Decides.{nat_tests}
use Rattle.rules.specs.Ledger.{Message, Ledger, times, times_in_time, last_cycle, is_scheduled, is_waiting, is_withdrawn, ended_before, lived_to, released, one_if, fates, how_many}
use Rattle.rules.specs.Promise.{Accounted}
use Rattle.rules.proofs.Accounts.{Account, Done, Open, Closed, account_number}

-- SUMS over the instances

how_many_none : (n : ℕ) (test : ℕ → Bool) → ((j : ℕ) → 1 ≤ j → j ≤ n → test j ≡ false) → how_many n test ≡ 0
unfolding how_many
how_many_none zero test none = refl
how_many_none (suc n) test none =
    let before = how_many_none n test (λ j h l. none j h (omega arith)) in
    let here = none (suc n) (omega arith) (omega arith) in
    grind (arith, nat_tests)

-- each has exactly one of three fates, so the three numbers add up
how_many_three : (n : ℕ) (a b c : ℕ → Bool) → ((j : ℕ) → 1 ≤ j → j ≤ n → one_if (a j) + one_if (b j) + one_if (c j) ≡ 1) → how_many n a + how_many n b + how_many n c ≡ n
unfolding how_many
how_many_three zero a b c each = omega arith
how_many_three (suc n) a b c each =
    let before = how_many_three n a b c (λ j h l. each j h (omega arith)) in
    let here = each (suc n) (omega arith) (omega arith) in
    omega arith

-- two tests that fail before the last, and there do not both pass
how_many_last : (n : ℕ) (a b : ℕ → Bool) → ((j : ℕ) → 1 ≤ j → j < n → (a j ≡ false) × (b j ≡ false)) → (1 ≤ n → one_if (a n) + one_if (b n) ≤ 1) → how_many n a + how_many n b ≤ 1
unfolding how_many
how_many_last zero a b early last = omega arith
how_many_last (suc n) a b early last =
    let none_a = how_many_none n a (λ j h l. (early j h (omega arith)).0) in
    let none_b = how_many_none n b (λ j h l. (early j h (omega arith)).1) in
    let here = last (omega arith) in
    omega arith

-- what decides the fates of one message's instances
pub record Fated (l : Ledger) (m : Message) (n : ℕ) : Type 0 where
  pub count : released l m ≡ n
  pub early : (j : ℕ) → 1 ≤ j → j < n → (is_scheduled m j ≡ true) × (is_waiting l m j ≡ false) × (is_withdrawn m j ≡ false)
  pub last : 1 ≤ n → fates l m n ≡ 1

one_fate : (l : Ledger) (m : Message) (n : ℕ) → Fated l m n → (j : ℕ) → 1 ≤ j → j ≤ n → fates l m j ≡ 1
one_fate l m n f j h below =
    ⊎_elim
    (λ (same : j ≡ n). subst (λ i. fates l m i ≡ 1) (sym same) (f.last (omega arith)))
    (λ (other : j ≡ n → ⊥).
    let e = f.early j h (omega arith) in
    let a : one_if (is_scheduled m j) ≡ 1 = ap one_if e.0 in
    let b : one_if (is_waiting l m j) ≡ 0 = ap one_if e.1 in
    let c : one_if (is_withdrawn m j) ≡ 0 = ap one_if e.2 in
    omega arith)
    (cases_eq j n)

-- an instance that was never scheduled and whose last cycle is to come waits, or is withdrawn with its message
open_by : (e : Option ℕ) (count t in_time last : ℕ) → t ≡ 0 → elim e as (λ _. ℕ) [ Some c ↦ c | None ↦ count ] < last
    → one_if (eqb t 1 && eqb in_time 1) + one_if (eqb t 0 && not (is_some e) && ltb count last) + one_if (eqb t 0 && ended_before last e) ≡ 1
open_by None count t in_time last none ahead = grind (arith, nat_tests)
open_by (Some c) count t in_time last none ahead = grind (arith, nat_tests)

module _ (l : Ledger) (m : Message) (wait left k : ℕ) (a : Account m.figures m.start m.noted (lived_to l m) wait left k) where
  done_fate : (j : ℕ) → Done m.figures m.start m.noted j → (is_scheduled m j ≡ true) × (is_waiting l m j ≡ false) × (is_withdrawn m j ≡ false)
  done_fate j d =
      let once = d.once in
      let in_time = d.in_time in
      (grind (arith, nat_tests), grind (arith, nat_tests), grind (arith, nat_tests))

  open_fate : Open m.figures m.start m.noted (lived_to l m) left k → fates l m k ≡ 1
  open_fate o = open_by m.ended l.count (times m k) (times_in_time m k) (last_cycle m k) o.never (omega (arith, o.ahead, o.waits))

  last_fate : 1 ≤ k → fates l m k ≡ 1
  last_fate h = go a.last
    where
      go : Open m.figures m.start m.noted (lived_to l m) left k ⊎ Closed m.figures m.start m.noted left k → fates l m k ≡ 1
      go (inl o) = open_fate o
      go (inr c) =
          let e = done_fate k (c.done h) in
          let x : one_if (is_scheduled m k) ≡ 1 = ap one_if e.0 in
          let y : one_if (is_waiting l m k) ≡ 0 = ap one_if e.1 in
          let z : one_if (is_withdrawn m k) ≡ 0 = ap one_if e.2 in
          omega arith

  fated : Fated l m k
  fated =
      record {
        count = account_number m.figures m.start m.noted (lived_to l m) wait left k a;
        early = λ j h low. done_fate j (a.before j h low);
        last = last_fate;
      }

  -- an account settles every instance
  pub accounted : Accounted l m
  accounted =
      let f = fated in
      let n = f.count in
      let each : (j : ℕ) → 1 ≤ j → j ≤ released l m → fates l m j ≡ 1 = λ j h low. one_fate l m k f j h (omega arith) in
      record {
        one_fate = each;
        in_life = a.in_life;
        adds_up = how_many_three (released l m) (is_scheduled m) (is_waiting l m) (is_withdrawn m) each;
        at_most_one =
            how_many_last (released l m) (is_waiting l m) (is_withdrawn m)
            (λ j h low. let e = f.early j h (omega arith) in (e.1, e.2))
            (λ h. omega (arith, each (released l m) h (omega arith)));
      }
