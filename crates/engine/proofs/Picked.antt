-- The word of the waiting rows whose demand is within the window, one instance on. Assumes nothing.
use Rattle.std.proofs.Common.{◌≡◌, ℕ, ◌+◌, ◌*◌, ◌%◌, ◌^◌, ◌<◌, ◌≤◌, Bool, true, false, cond, ◌&&◌, ◌||◌, leb, ltb, eqb, List, [], ◌∷◌, length, get_or, Some, None, Option, sym, refl, ap, ◌∙◌, ⊎_elim, arith}
use lib.Bits.{bit_or}
use Rattle.std.proofs.lemmas.Nat.{one_shl}
use Rattle.std.proofs.lemmas.Bool.{cases_eq, cases_lt, false≢true, eq-eqb, ne_eqb, lt-ltb, le-ltb, and_parts, and_left, and_right, and_from, or_right}
use Rattle.bus.specs.Rows.{member}
use Rattle.bus.proofs.Words.{no_member_past}
use Rattle.orders.specs.declared.instance.Instance.{Instance}
use Rattle.engine.specs.declared.row.Row.{Row}
use Rattle.engine.specs.Rows.{instance_of, waits}
use Rattle.engine.specs.Cycle.{Slots, used_and, waiter, waiters}
use Rattle.engine.specs.Held.{no_instance, within, word_below}
use Rattle.engine.proofs.WaitingRows.{words_agree, member_word, word_fits, member_or, member_one}
use Rattle.engine.proofs.Waiters.{OfRow, waiter_of, waiter_place, waiter_at}

-- a row whose demand is within the window, one of the first k that wait
abbrev pub picked : (demands : List ℕ) → (window : ℕ) → Slots → (k r : ℕ) → Bool
picked demands window t k r = within demands window t r && ltb (length (waiters r t)) k

-- the word has the rows that are picked of the first k
pub record Picked (demands : List ℕ) (window : ℕ) (t : Slots) (k word : ℕ) : Type 0 where
  pub rows : (r : ℕ) → r < 32 → member word r ≡ picked demands window t k r

pub picked_none : (demands : List ℕ) (window : ℕ) (t : Slots) → Picked demands window t 0 0
picked_none demands window t = record { rows = λ r h. no_member_past 0 0 r (omega arith) (omega arith) ∙ sym (and_right (within demands window t r) _ (le-ltb (length (waiters r t)) 0 (omega arith))) }

-- only the instance of a waiting row passes a test of it
passing : (n window r : ℕ) (o : Option Row) → used_and (λ row. waits row && leb n window) o ≡ true → (y : Instance) × (y ∷ [] ≡ waiter r o) × (y.row ≡ r)
passing n window r None is = absurd (false≢true is)
passing n window r (Some row) is = (instance_of r row, sym (ap (λ b. cond b (instance_of r row ∷ []) []) (and_parts (waits row) (leb n window) is).0), refl)

waiting_one : (n window r : ℕ) (o : Option Row) (x : Instance) → x ∷ [] ≡ waiter r o → used_and (λ row. waits row && leb n window) o ≡ leb n window
waiting_one n window r None x adds = absurd (omega (arith, ap length adds))
waiting_one n window r (Some row) x adds = go (waits row) adds
  where
    go : (b : Bool) → x ∷ [] ≡ cond b (instance_of r row ∷ []) [] → (b && leb n window) ≡ leb n window
    go true adds = refl
    go false adds = absurd (omega (arith, ap length adds))

module _ (demands : List ℕ) (window : ℕ) (t : Slots) (k : ℕ) (inside : k < length (waiters 32 t)) where
  abbrev x : Instance
  x = get_or (waiters 32 t) k no_instance

  of : OfRow 32 k t x
  of = waiter_of 32 t k inside

  -- the k-th waiting row is picked by the k-th demand
  here : within demands window t x.row ≡ leb (get_or demands k 0) window
  here = waiting_one _ window x.row (t x.row) x of.adds ∙ ap (λ n. leb (get_or demands n 0) window) of.place

  before : picked demands window t k x.row ≡ false
  before = and_right (within demands window t x.row) _ (le-ltb (length (waiters x.row t)) k (omega (arith, of.place)))

  after : picked demands window t (k + 1) x.row ≡ leb (get_or demands k 0) window
  after = ap (λ b. within demands window t x.row && b) (lt-ltb (length (waiters x.row t)) (k + 1) (omega (arith, of.place))) ∙ always (within demands window t x.row) ∙ here
    where
      always : (b : Bool) → (b && true) ≡ b
      always true = refl
      always false = refl

  -- and no other row
  elsewhere : (r : ℕ) → r < 32 → (r ≡ x.row → ⊥) → picked demands window t (k + 1) r ≡ picked demands window t k r
  elsewhere r in_rows other = go (within demands window t r) refl
    where
      go : (b : Bool) → within demands window t r ≡ b → picked demands window t (k + 1) r ≡ picked demands window t k r
      go false is = and_left _ _ is ∙ sym (and_left _ _ is)
      go true is =
          let found = passing (get_or demands (length (waiters r t)) 0) window r (t r) is in
          let not_k : length (waiters r t) ≡ k → ⊥ = λ e. other (sym found.2 ∙ ap (λ i. i.row) (sym (waiter_at 32 r t found.0 in_rows found.1) ∙ ap (λ n. get_or (waiters 32 t) n no_instance) e)) in
          ap (λ b. within demands window t r && b)
          (⊎_elim
          (λ (low : length (waiters r t) < k). lt-ltb (length (waiters r t)) (k + 1) (omega arith) ∙ sym (lt-ltb (length (waiters r t)) k low))
          (λ (high : k ≤ length (waiters r t)). le-ltb (length (waiters r t)) (k + 1) (omega arith) ∙ sym (le-ltb (length (waiters r t)) k high))
          (cases_lt (length (waiters r t)) k))

  module _ (word : ℕ) (so_far : Picked demands window t k word) where
    pub picked_stay : leb (get_or demands k 0) window ≡ false → Picked demands window t (k + 1) word
    picked_stay is =
        record {
          rows = λ r h.
              so_far.rows r h
              ∙ ⊎_elim
              (λ (e : r ≡ x.row). ap (picked demands window t k) e ∙ before ∙ sym is ∙ sym after ∙ sym (ap (picked demands window t (k + 1)) e))
              (λ (ne : r ≡ x.row → ⊥). sym (elsewhere r h ne))
              (cases_eq r x.row);
        }

    member_more : (r : ℕ) → member (bit_or word ((1 * 2 ^ x.row) % 2 ^ 32)) r ≡ (member word r || eqb r x.row)
    member_more r = ap (λ w. member (bit_or word w) r) (one_shl x.row 32 of.inside) ∙ member_or word (2 ^ x.row) r ∙ ap (λ b. member word r || b) (member_one x.row r)

    left_or : (a b : Bool) → b ≡ false → (a || b) ≡ a
    left_or true b e = refl
    left_or false b e = e

    pub picked_more : leb (get_or demands k 0) window ≡ true → Picked demands window t (k + 1) (bit_or word ((1 * 2 ^ x.row) % 2 ^ 32))
    picked_more is =
        record {
          rows = λ r h.
              member_more r
              ∙ ⊎_elim
              (λ (e : r ≡ x.row). or_right (member word r) _ (eq-eqb r x.row e) ∙ sym is ∙ sym after ∙ sym (ap (picked demands window t (k + 1)) e))
              (λ (ne : r ≡ x.row → ⊥). left_or (member word r) _ (ne_eqb r x.row ne) ∙ so_far.rows r h ∙ sym (elsewhere r h ne))
              (cases_eq r x.row);
        }

-- past all that wait, the word is that of the rows within the window
pub picked_all : (demands : List ℕ) (window : ℕ) (t : Slots) (k word : ℕ) → word < 2 ^ 32 → length (waiters 32 t) ≤ k → Picked demands window t k word → word ≡ word_below 32 (within demands window t)
unfolding word_below
picked_all demands window t k word few past all =
    words_agree 32 word _ few (word_fits (within demands window t) 32) (λ r h. all.rows r h ∙ whole r h ∙ sym (member_word (within demands window t) 32 r h))
  where
    whole : (r : ℕ) → r < 32 → picked demands window t k r ≡ within demands window t r
    whole r h = go (within demands window t r) refl
      where
        go : (b : Bool) → within demands window t r ≡ b → picked demands window t k r ≡ within demands window t r
        go false is = and_left _ _ is ∙ sym is
        go true is =
            let found = passing (get_or demands (length (waiters r t)) 0) window r (t r) is in
            and_from _ _ is (lt-ltb (length (waiters r t)) k (omega (arith, waiter_place 32 r t found.0 h found.1))) ∙ sym is
