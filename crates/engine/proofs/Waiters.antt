-- The waiting instances of the first rows. Assumes nothing.
use Rattle.std.proofs.Common.{◌≡◌, ℕ, zero, suc, ◌+◌, ◌-◌, ◌<◌, ◌≤◌, Bool, true, false, cond, ◌≢◌, [], ◌∷◌, ◌++◌, length, get_or, Some, None, Option, sym, refl, ap, ◌∙◌, subst, ap₂, inl, inr, append-nil, add-one, arith}
use Rattle.std.proofs.lemmas.List.{length-append, get_or_append_left, get_or-append_right, get_or_push}
use Rattle.std.proofs.lemmas.Bool.{cases_lt, cases_order}
use Rattle.orders.specs.declared.instance.Instance.{Instance}
use Rattle.engine.specs.declared.row.Row.{Row}
use Rattle.engine.specs.Rows.{instance_of, waits}
use Rattle.engine.specs.Cycle.{Slots, waiter, waiters}
use Rattle.engine.specs.Held.{no_instance}

pub waiters_none : (t : Slots) → waiters 0 t ≡ []
unfolding waiters
waiters_none t = refl

pub waiters_more : (n : ℕ) (t : Slots) → waiters (n + 1) t ≡ waiters n t ++ waiter n (t n)
unfolding waiters
waiters_more n t = ap (λ m. waiters m t) (add-one n)

-- a row adds at most one, with its own number
waiter_short : (n : ℕ) (o : Option Row) → length (waiter n o) ≤ 1
waiter_short n None = omega arith
waiter_short n (Some row) = elim (waits row) as (λ b. length (cond b (instance_of n row ∷ []) []) ≤ 1) [ true ↦ omega arith | false ↦ omega arith ]

waiter_row : (n : ℕ) (o : Option Row) (k : ℕ) → k < length (waiter n o) → (get_or (waiter n o) k no_instance).row ≡ n
waiter_row n None k h = absurd (omega arith)
waiter_row n (Some row) k h = go (waits row) k h
  where
    go : (b : Bool) (k : ℕ) → k < length (cond b (instance_of n row ∷ []) []) → (get_or (cond b (instance_of n row ∷ []) []) k no_instance).row ≡ n
    go true zero h = refl
    go true (suc k) h = absurd (omega arith)
    go false k h = absurd (omega arith)

pub length_waiters : (n : ℕ) (t : Slots) → length (waiters n t) ≤ n
unfolding waiters
length_waiters zero t = omega arith
length_waiters (suc n) t = omega (arith, length-append (waiters n t) (waiter n (t n)), length_waiters n t, waiter_short n (t n))

-- the rows of the first n are below n
pub row_below : (n : ℕ) (t : Slots) (k : ℕ) → k < length (waiters n t) → (get_or (waiters n t) k no_instance).row < n
unfolding waiters
row_below zero t k h = absurd (omega arith)
row_below (suc n) t k h =
    elim (cases_lt k (length (waiters n t))) [
      | inl below ↦ omega (arith, ap (λ i. i.row) (get_or_append_left (waiters n t) (waiter n (t n)) no_instance k below), row_below n t k below)
      | inr past ↦
          let place : k - length (waiters n t) < length (waiter n (t n)) = omega (arith, length-append (waiters n t) (waiter n (t n))) in
          omega (arith, ap (λ i. i.row) (get_or-append_right (waiters n t) (waiter n (t n)) (length (waiters n t)) k no_instance refl past), waiter_row n (t n) (k - length (waiters n t)) place)
    ]

-- what row r adds
module _ (r : ℕ) (t : Slots) where
  pub waiters_stay : [] ≡ waiter r (t r) → waiters (r + 1) t ≡ waiters r t
  waiters_stay none = waiters_more r t ∙ ap (λ is. waiters r t ++ is) (sym none) ∙ append-nil (waiters r t)

  module _ (x : Instance) (adds : x ∷ [] ≡ waiter r (t r)) where
    pub waiters_push : waiters (r + 1) t ≡ waiters r t ++ x ∷ []
    waiters_push = waiters_more r t ∙ ap (λ is. waiters r t ++ is) (sym adds)

    -- its row is above those before it
    pub row_apart : (k : ℕ) → k < length (waiters r t) → (get_or (waiters r t) k no_instance).row ≢ x.row
    row_apart k h =
        let own : x.row ≡ r = ap (λ is. (get_or is 0 no_instance).row) adds ∙ waiter_row r (t r) 0 (omega (arith, ap length adds)) in
        let below = row_below r t k h in
        omega arith

-- the instance of a waiting row stands after those of the rows below it
pub waiter_place : (n r : ℕ) (t : Slots) (x : Instance) → r < n → x ∷ [] ≡ waiter r (t r) → length (waiters r t) < length (waiters n t)
unfolding waiters
waiter_place zero r t x h adds = absurd (omega arith)
waiter_place (suc n) r t x h adds =
    let more = length-append (waiters n t) (waiter n (t n)) in
    elim (cases_order r n) [
      | inl here ↦
          let adds_here : x ∷ [] ≡ waiter n (t n) = subst (λ m. x ∷ [] ≡ waiter m (t m)) here adds in
          omega (arith, more, ap (λ m. length (waiters m t)) here, ap length adds_here)
      | inr other ↦ elim other [ inl below ↦ omega (arith, more, waiter_place n r t x below adds) | inr past ↦ absurd (omega arith) ]
    ]

pub waiter_at : (n r : ℕ) (t : Slots) (x : Instance) → r < n → x ∷ [] ≡ waiter r (t r) → get_or (waiters n t) (length (waiters r t)) no_instance ≡ x
unfolding waiters
waiter_at zero r t x h adds = absurd (omega arith)
waiter_at (suc n) r t x h adds =
    elim (cases_order r n) [
      | inl here ↦
          let adds_here : x ∷ [] ≡ waiter n (t n) = subst (λ m. x ∷ [] ≡ waiter m (t m)) here adds in
          ap₂ (λ m is. get_or (waiters n t ++ is) (length (waiters m t)) no_instance) here (sym adds_here) ∙ get_or_push (waiters n t) x no_instance (length (waiters n t)) refl
      | inr other ↦
          elim other [
            | inl below ↦ get_or_append_left (waiters n t) (waiter n (t n)) no_instance (length (waiters r t)) (waiter_place n r t x below adds) ∙ waiter_at n r t x below adds
            | inr past ↦ absurd (omega arith)
          ]
    ]

-- an instance of the list is its row's, and stands after those of the rows below it
pub record OfRow (n k : ℕ) (t : Slots) (x : Instance) : Type 0 where
  pub inside : x.row < n
  pub adds : x ∷ [] ≡ waiter x.row (t x.row)
  pub place : length (waiters x.row t) ≡ k

waiter_only : (n : ℕ) (o : Option Row) (k : ℕ) → k < length (waiter n o) → get_or (waiter n o) k no_instance ∷ [] ≡ waiter n o
waiter_only n None k h = absurd (omega arith)
waiter_only n (Some row) k h = go (waits row) k h
  where
    go : (b : Bool) (k : ℕ) → k < length (cond b (instance_of n row ∷ []) []) → get_or (cond b (instance_of n row ∷ []) []) k no_instance ∷ [] ≡ cond b (instance_of n row ∷ []) []
    go true zero h = refl
    go true (suc k) h = absurd (omega arith)
    go false k h = absurd (omega arith)

pub waiter_of : (n : ℕ) (t : Slots) (k : ℕ) → k < length (waiters n t) → OfRow n k t (get_or (waiters n t) k no_instance)
unfolding waiters
waiter_of zero t k h = absurd (omega arith)
waiter_of (suc n) t k h =
    elim (cases_lt k (length (waiters n t))) [
      | inl below ↦
          let of = waiter_of n t k below in
          subst (OfRow (suc n) k t) (sym (get_or_append_left (waiters n t) (waiter n (t n)) no_instance k below))
          (record { inside = omega (arith, of.inside); adds = of.adds; place = of.place })
      | inr past ↦
          let j = k - length (waiters n t) in
          let inside : j < length (waiter n (t n)) = omega (arith, length-append (waiters n t) (waiter n (t n))) in
          let here = waiter_row n (t n) j inside in
          let first : k ≡ length (waiters n t) = omega (arith, waiter_short n (t n)) in
          subst (OfRow (suc n) k t) (sym (get_or-append_right (waiters n t) (waiter n (t n)) (length (waiters n t)) k no_instance refl past))
          (record {
            inside = omega (arith, here);
            adds = waiter_only n (t n) j inside ∙ ap (λ m. waiter m (t m)) (sym here);
            place = ap (λ m. length (waiters m t)) here ∙ sym first;
          })
    ]
