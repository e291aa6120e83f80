-- The columns of a table, filled row by row. Assumes nothing.
use Rattle.std.proofs.Common.{◌≡◌, ℕ, ◌+◌, ◌<◌, ◌≤◌, ◌≢◌, List, length, get_or, set, replicate, Some, None, Option, sym, refl, ap, ◌∙◌, subst, arith, below_more}
use Rattle.std.proofs.lemmas.List.{get_or-set_same, get_or-set_other, get_or_past, get_or-replicate, length-set, length-replicate}
use Rattle.orders.specs.declared.instance.Instance.{Instance}
use Rattle.engine.specs.declared.row.Row.{Row}
use Rattle.engine.specs.Rows.{instance_of}
use Rattle.engine.specs.Columns.{InStep}
use Rattle.engine.specs.Held.{slots, no_instance, kind_of, left_of, StandsSlot, Stands}

abbrev pub WaitIs : ℕ → Option Row → Type 0
WaitIs wait None = wait ≡ wait
WaitIs wait (Some row) = wait ≡ row.wait

-- what the columns have at one place is what a slot holds; the wait of an empty one may be any
pub record Place (o : Option Row) (kind : Instance) (period deadline wait left : ℕ) : Type 0 where
  pub kind_is : kind ≡ kind_of 0 o
  pub period_is : period ≡ (kind_of 0 o).period
  pub deadline_is : deadline ≡ (kind_of 0 o).deadline
  pub wait_is : WaitIs wait o
  pub left_is : left ≡ left_of o

-- the places below n hold the rows, and those from n on are empty
pub record Filled (n : ℕ) (rows : List (Option Row)) (kinds : List Instance) (periods deadlines waits lefts : List ℕ) : Type 0 where
  pub kinds_long : length kinds ≡ 32
  pub periods_long : length periods ≡ 32
  pub deadlines_long : length deadlines ≡ 32
  pub waits_long : length waits ≡ 32
  pub lefts_long : length lefts ≡ 32
  pub first : (r : ℕ) → r < n → Place (slots rows r) (get_or kinds r no_instance) (get_or periods r 0) (get_or deadlines r 0) (get_or waits r 0) (get_or lefts r 0)
  pub rest : (r : ℕ) → n ≤ r → r < 32 → Place None (get_or kinds r no_instance) (get_or periods r 0) (get_or deadlines r 0) (get_or waits r 0) (get_or lefts r 0)

pub empty_place : (wait : ℕ) → Place None (kind_of 0 None) 255 0 wait 0
empty_place wait = record { kind_is = refl; period_is = refl; deadline_is = refl; wait_is = refl; left_is = refl }

pub used_place : (o : Option Row) (row : Row) (kind : Instance) (period deadline wait left : ℕ) → o ≡ Some row → kind ≡ instance_of 0 row → period ≡ row.figures.period → deadline ≡ row.figures.deadline
    → wait ≡ row.wait → left ≡ row.left → Place o kind period deadline wait left
used_place o row kind period deadline wait left is k p d w l =
    subst (λ o. Place o kind period deadline wait left) (sym is)
    (record { kind_is = k; period_is = p; deadline_is = d; wait_is = w; left_is = l })

pub filled_none : (rows : List (Option Row)) (kind : Instance) (period deadline wait left : ℕ) → Place None kind period deadline wait left
    → Filled 0 rows (replicate 32 kind) (replicate 32 period) (replicate 32 deadline) (replicate 32 wait) (replicate 32 left)
filled_none rows kind period deadline wait left place =
    record {
      kinds_long = length-replicate 32 kind;
      periods_long = length-replicate 32 period;
      deadlines_long = length-replicate 32 deadline;
      waits_long = length-replicate 32 wait;
      lefts_long = length-replicate 32 left;
      first = λ r h. absurd (omega arith);
      rest = λ r h b.
          rw (get_or-replicate 32 r kind no_instance b, get_or-replicate 32 r period 0 b, get_or-replicate 32 r deadline 0 b, get_or-replicate 32 r wait 0 b, get_or-replicate 32 r left 0 b) place;
    }

module _ (n : ℕ) (rows : List (Option Row)) (kinds : List Instance) (periods deadlines waits lefts : List ℕ) (within : n < 32) (so_far : Filled n rows kinds periods deadlines waits lefts) where
  pub filled_empty : slots rows n ≡ None → Filled (n + 1) rows kinds periods deadlines waits lefts
  filled_empty empty =
      record {
        kinds_long = so_far.kinds_long;
        periods_long = so_far.periods_long;
        deadlines_long = so_far.deadlines_long;
        waits_long = so_far.waits_long;
        lefts_long = so_far.lefts_long;
        first =
            below_more _ n so_far.first
            (subst (λ o. Place o (get_or kinds n no_instance) (get_or periods n 0) (get_or deadlines n 0) (get_or waits n 0) (get_or lefts n 0)) (sym empty) (so_far.rest n (omega arith) within));
        rest = λ r h b. so_far.rest r (omega arith) b;
      }

  module _ (kind : Instance) (period deadline wait left : ℕ) where
    others : (o : Option Row) (r : ℕ) → r ≢ n → Place o (get_or kinds r no_instance) (get_or periods r 0) (get_or deadlines r 0) (get_or waits r 0) (get_or lefts r 0)
        → Place o (get_or (set kinds n kind) r no_instance) (get_or (set periods n period) r 0) (get_or (set deadlines n deadline) r 0) (get_or (set waits n wait) r 0) (get_or (set lefts n left) r 0)
    others o r ne place =
        rw (
          get_or-set_other kinds n r kind no_instance ne,
          get_or-set_other periods n r period 0 ne,
          get_or-set_other deadlines n r deadline 0 ne,
          get_or-set_other waits n r wait 0 ne,
          get_or-set_other lefts n r left 0 ne,
        ) place

    pub filled_used : Place (slots rows n) kind period deadline wait left
        → Filled (n + 1) rows (set kinds n kind) (set periods n period) (set deadlines n deadline) (set waits n wait) (set lefts n left)
    filled_used place =
        record {
          kinds_long = length-set kinds n kind ∙ so_far.kinds_long;
          periods_long = length-set periods n period ∙ so_far.periods_long;
          deadlines_long = length-set deadlines n deadline ∙ so_far.deadlines_long;
          waits_long = length-set waits n wait ∙ so_far.waits_long;
          lefts_long = length-set lefts n left ∙ so_far.lefts_long;
          first =
              below_more _ n
              (λ r h. let ne : r ≢ n = omega arith in others (slots rows r) r ne (so_far.first r h))
              (rw (
                get_or-set_same kinds n kind no_instance (omega (arith, so_far.kinds_long)),
                get_or-set_same periods n period 0 (omega (arith, so_far.periods_long)),
                get_or-set_same deadlines n deadline 0 (omega (arith, so_far.deadlines_long)),
                get_or-set_same waits n wait 0 (omega (arith, so_far.waits_long)),
                get_or-set_same lefts n left 0 (omega (arith, so_far.lefts_long)),
              ) place);
          rest = λ r h b. let ne : r ≢ n = omega arith in others None r ne (so_far.rest r (omega arith) b);
        }

stands_place : (r : ℕ) (o : Option Row) (kind : Instance) (period deadline wait left : ℕ) → Place o kind period deadline wait left → StandsSlot r kind wait left o
stands_place r None kind period deadline wait left place = (ap (λ i. i.deadline) place.kind_is, place.left_is)
stands_place r (Some row) kind period deadline wait left place =
    rw (place.kind_is, place.left_is) (refl, place.wait_is)

-- all rows filled in: the columns are in step, and those of the table
module _ (n : ℕ) (rows : List (Option Row)) (kinds : List Instance) (periods deadlines waits lefts : List ℕ) (end : 32 ≤ n) (all : Filled n rows kinds periods deadlines waits lefts) where
  pub filled_in_step : InStep kinds periods deadlines waits lefts
  filled_in_step =
      record {
        kinds_long = all.kinds_long;
        periods_long = all.periods_long;
        deadlines_long = all.deadlines_long;
        waits_long = all.waits_long;
        lefts_long = all.lefts_long;
        periods_are = λ r h. let place = all.first r (omega arith) in place.period_is ∙ sym (ap (λ i. i.period) place.kind_is);
        deadlines_are = λ r h. let place = all.first r (omega arith) in place.deadline_is ∙ sym (ap (λ i. i.deadline) place.kind_is);
      }

  pub filled_stands : length rows ≡ 32 → Stands kinds waits lefts (slots rows)
  filled_stands long =
      record {
        at = λ r h. stands_place r (slots rows r) _ _ _ _ _ (all.first r (omega arith));
        past = λ r h. get_or_past rows r None (omega arith);
      }
