-- Loads of a list that grows at its end, and the demands of its instances. Assumes nothing.
use Rattle.std.proofs.Common.{◌≡◌, ℕ, ◌+◌, ◌*◌, ◌<◌, ◌≤◌, Bool, true, false, cond, not, ◌≢◌, List, [], ◌∷◌, ◌++◌, length, get_or, take, set, sym, refl, ap, ◌∙◌, inl, inr, arith, below_more}
use Rattle.std.proofs.lemmas.List.{take_more, get_or_append_left, get_or_push, length_push, get_or-set_same, get_or-set_other}
use Rattle.std.proofs.lemmas.Bool.{cases_lt}
use Rattle.orders.specs.Laws.{Order, Laws}
use Rattle.orders.specs.declared.instance.Instance.{Instance}
use Rattle.engine.specs.Cycle.{load}
use Rattle.engine.specs.Held.{no_instance, demand, Demands, CountedIn}

-- what an instance adds to the load of another
abbrev pub part : Order → Instance → Instance → ℕ
part goes x i = cond (goes x i) x.duration 0

pub load_none : (goes : Order) (i : Instance) → load goes [] i ≡ 0
unfolding load
load_none goes i = refl

pub load_push : (goes : Order) (xs : List Instance) (x i : Instance) → load goes (xs ++ x ∷ []) i ≡ load goes xs i + part goes x i
unfolding load
load_push goes [] x i = omega arith
load_push goes (y ∷ ys) x i = omega (arith, load_push goes ys x i)

pub load_more : (goes : Order) (xs : List Instance) (k : ℕ) (d i : Instance) → k < length xs → load goes (take (k + 1) xs) i ≡ load goes (take k xs) i + part goes (get_or xs k d) i
load_more goes xs k d i h = ap (λ ys. load goes ys i) (take_more xs k d h) ∙ load_push goes (take k xs) (get_or xs k d) i

module _ (goes : Order) (all : List Instance) (x : Instance) (old new : List ℕ) (k : ℕ) where
  -- the k-th goes before x, and its demand stays
  pub counted_left : goes (get_or all k no_instance) x ≡ true → CountedIn goes all x k old new → CountedIn goes all x (k + 1) old new
  counted_left is so_far =
      record {
        first = below_more _ k so_far.first (omega (arith, so_far.rest k (omega arith), ap (λ b. cond b 0 x.duration) is));
        rest = λ j h. so_far.rest j (omega arith);
      }

  -- x goes before the k-th
  pub counted_added : (v : ℕ) → k < length new → v ≡ get_or new k 0 + x.duration → goes (get_or all k no_instance) x ≡ false → CountedIn goes all x k old new → CountedIn goes all x (k + 1) old (set new k v)
  counted_added v within is not_before so_far =
      record {
        first =
            below_more _ k
            (λ j h. let ne : j ≢ k = omega arith in get_or-set_other new k j v 0 ne ∙ so_far.first j h)
            (get_or-set_same new k v 0 within ∙ omega (arith, is, so_far.rest k (omega arith), ap (λ b. cond b 0 x.duration) not_before));
        rest = λ j h. let ne : j ≢ k = omega arith in get_or-set_other new k j v 0 ne ∙ so_far.rest j (omega arith);
      }

turned : (b : Bool) (d : ℕ) → cond (not b) d 0 ≡ cond b 0 d
turned true d = refl
turned false d = refl

-- a further instance at the end of a list: of two rows one goes first, so it counts in the demand of another exactly where that does not go before it
module _ (goes : Order) (laws : Laws goes) (all : List Instance) (x : Instance) (apart : (k : ℕ) → k < length all → (get_or all k no_instance).row ≢ x.row) where
  other_way : (k : ℕ) → k < length all → part goes x (get_or all k no_instance) ≡ cond (goes (get_or all k no_instance) x) 0 x.duration
  other_way k h = ap (λ b. cond b x.duration 0) (laws.one_way (get_or all k no_instance) x (apart k h)) ∙ turned (goes (get_or all k no_instance) x) x.duration

  -- x is no part of its own load
  not_itself : part goes x x ≡ 0
  not_itself = ap (λ b. cond b x.duration 0) (laws.same_row x x refl)

  pub demands_push :
      (old new : List ℕ) → Demands goes all old
      → ((k : ℕ) → k < length all → get_or new k 0 ≡ get_or old k 0 + cond (goes (get_or all k no_instance) x) 0 x.duration)
      → get_or new (length all) 0 ≡ demand goes all x
      → Demands goes (all ++ x ∷ []) new
  demands_push old new were others own k h =
      elim (cases_lt k (length all)) [
        | inl below ↦
            let same = get_or_append_left all (x ∷ []) no_instance k below in
            others k below ∙ omega (arith, were k below, other_way k below, load_push goes all x (get_or all k no_instance)) ∙ ap (demand goes (all ++ x ∷ [])) (sym same)
        | inr past ↦
            let last : length all ≡ k = omega (arith, length_push all x) in
            ap (λ j. get_or new j 0) (sym last) ∙ own ∙ omega (arith, not_itself, load_push goes all x x) ∙ ap (demand goes (all ++ x ∷ [])) (sym (get_or_push all x no_instance k last))
      ]

-- the waiting instances and their demands, gathered row by row
pub record Gathered (goes : Order) (all : List Instance) (numbers : List ℕ) : Type 0 where
  pub long : length numbers ≡ length all
  pub demands : Demands goes all numbers
  pub bound : (k : ℕ) → k < length numbers → get_or numbers k 0 ≤ 255 * length all

pub gathered_none : (goes : Order) → Gathered goes [] []
gathered_none goes = record { long = refl; demands = λ k h. absurd (omega arith); bound = λ k h. absurd (omega arith) }

module _ (goes : Order) (laws : Laws goes) (all : List Instance) (x : Instance) (apart : (k : ℕ) → k < length all → (get_or all k no_instance).row ≢ x.row)
    (numbers : List ℕ) (so_far : Gathered goes all numbers) where
  pub gathered_push :
      (between : List ℕ) (own : ℕ) → length between ≡ length numbers
      → CountedIn goes all x (length all) numbers between
      → own ≡ demand goes all x
      → own ≤ 255 * (length all + 1)
      → ((k : ℕ) → k < length between → get_or between k 0 ≤ 255 * (length all + 1))
      → Gathered goes (all ++ x ∷ []) (between ++ own ∷ [])
  gathered_push between own same counted own_is own_bound bounds =
      let long : length between ≡ length all = same ∙ so_far.long in
      let end_is : get_or (between ++ own ∷ []) (length all) 0 ≡ own = get_or_push between own 0 (length all) long in
      let left : (k : ℕ) → k < length between → get_or (between ++ own ∷ []) k 0 ≡ get_or between k 0 = λ k h. get_or_append_left between (own ∷ []) 0 k h in
      let more : length (all ++ x ∷ []) ≡ length all + 1 = length_push all x in
      record {
        long = omega (arith, length_push between own);
        demands = demands_push goes laws all x apart numbers (between ++ own ∷ []) so_far.demands (λ k h. left k (omega arith) ∙ counted.first k h) (end_is ∙ own_is);
        bound = λ k h.
            elim (cases_lt k (length between)) [
              | inl below ↦ omega (arith, left k below, bounds k below)
              | inr past ↦
                  let last : k ≡ length all = omega (arith, length_push between own) in
                  omega (arith, ap (λ j. get_or (between ++ own ∷ []) j 0) last ∙ end_is)
            ];
      }
