-- Every call keeps the ledger whole, and so does every list of calls. Assumes nothing.
use Rattle.std.proofs.Common.{◌≡◌, ℕ, ◌<◌, Bool, true, false, cond, not, ◌||◌, eqb, ltb, leb, List, [], ◌∷◌, Some, None, Ok, Err, Option, refl, subst, arith}
use mathlib.Core.Path.{fun_ext}
use Rattle.std.proofs.ByRecursion.{All-weaker}
use Rattle.std.proofs.lemmas.Bool.{true≢false, leb-true, leb-false, not-false}
use Rattle.std.proofs.lemmas.Bool.Decides.{nat_tests}
use Rattle.bus.specs.Refusals.{Told, numbered}
use Rattle.orders.specs.Laws.{Order, Laws}
use Rattle.engine.specs.declared.row.Figures.{Figures}
use Rattle.engine.specs.declared.row.Row.{Row}
use Rattle.engine.specs.Rows.{sound}
use Rattle.engine.specs.Comparison.{Sound, SoundSlot}
use Rattle.engine.specs.Cycle.{Slots}
pub use Rattle.engine.proofs.Tests.{first_none}
use Rattle.engine.proofs.Tests.{some_is_none}
use Rattle.engine.proofs.Rehearsed.{Within}
use Rattle.rules.specs.Calls.{Call, State, Outcome, fresh, is_used, new_row, put, refused_if, in_range, settle, rules_of, rehearsed, with_slots, with_window, with_policy, checks, outcome, step, answer, after, run, history}
use Rattle.rules.specs.Calls.Call.{add, alter, drop, set_window, set_policy, next}
use Rattle.rules.specs.Ledger.{Ledger, blank, begin, end, resized, by_answer, enter, entered}
use Rattle.rules.specs.Promise.{Kept, ledger_of}
use Rattle.rules.proofs.Safe.{Safe, safe_empty, safe_next, safe_without, safe_wider, put_slots, put_within, rehearsed_safe, err_is_ok, same_ok}
use Rattle.rules.proofs.Ties.{Tie, accounted_when_tied, put_same, begin_tie, end_tie}
use Rattle.rules.proofs.Turn.{turn_tie}

-- CHECKS that are passed

pub passed : (b : Bool) (told : Told) → refused_if b told ≡ None → b ≡ false
passed true told e = absurd (some_is_none e)
passed false told e = refl

empty_when_unused : (a : Option Row) → is_used a ≡ false → a ≡ None
empty_when_unused None e = refl
empty_when_unused (Some x) e = absurd (true≢false e)

-- a new row whose figures are in range is sound
pub new_sound : (f : Figures) → in_range f ≡ None → sound (new_row f) ≡ true
new_sound f e =
    let a = first_none (refused_if (eqb f.duration 0) (numbered 4 (1 ∷ []))) _ e in
    let b = first_none (refused_if (eqb f.period 0) (numbered 4 (2 ∷ []))) _ a.1 in
    let c = first_none (refused_if (eqb f.deadline 0 || ltb f.period f.deadline) (numbered 4 (3 ∷ []))) _ b.1 in
    let duration = passed _ _ a.0 in
    let period = passed _ _ b.0 in
    let deadline = passed _ _ c.0 in
    grind (arith, nat_tests)

-- a row that is changed twice is as it was changed last
put_twice : (r : ℕ) (a b : Option Row) (t : Slots) → put r a (put r b t) ≡ put r a t
put_twice r a b t = fun_ext (λ k. elim (eqb k r) as (λ v. cond v a (cond v b (t k)) ≡ cond v a (t k)) [ true ↦ refl | false ↦ refl ])

pub checked : {P : Type 0} (c : Option Told) (o : Outcome P) (s : State P) → elim c as (λ _. Outcome P) [ Some told ↦ Err told | None ↦ o ] ≡ Ok s → (c ≡ None) × (o ≡ Ok s)
checked (Some told) o s e = absurd (err_is_ok e)
checked None o s e = (refl, e)

module _ {P : Type 0} (goes : P → Order) (rows limit : ℕ) where
  -- what holds between a master and its ledger
  pub record Sure (s : State P) (l : Ledger) : Type 0 where
    pub safe : Safe (rules_of goes rows limit s) s.slots
    pub tie : Tie s.slots l
    pub window : l.window ≡ s.window

  pub sure_fresh : (p : P) → Sure (fresh p) blank
  sure_fresh p =
      record {
        safe = safe_empty (rules_of goes rows limit (fresh p));
        tie = record { unbroken = refl; counts = λ r. refl; tied = tt; long = refl; in_window = λ c low high. absurd (omega arith) };
        window = refl;
      }

  -- a declined change keeps all, and so does one that is made if it is entered as it is made
  by_outcome : (s : State P) (l l⁺ : Ledger) (o : Outcome P) → Sure s l → ((s' : State P) → o ≡ Ok s' → Sure s' l⁺) → Sure (settle s o).state (by_answer l⁺ l (settle s o).answer)
  by_outcome s l l⁺ (Ok s') sure when_made = when_made s' refl
  by_outcome s l l⁺ (Err told) sure when_made = sure

  module _ (s : State P) (l : Ledger) (sure : Sure s l) where
    abbrev t : Slots
    t = s.slots

    -- a rehearsed table
    won : (s⁺ s' : State P) (l⁺ : Ledger) → Within rows s⁺.slots → Sound s⁺.slots → Tie s⁺.slots l⁺ → l⁺.window ≡ s⁺.window → rehearsed goes rows limit s⁺ ≡ Ok s' → Sure s' l⁺
    won s⁺ s' l⁺ within fine tie window e =
        let w = rehearsed_safe goes rows limit s⁺ s' within fine e in
        subst (λ v. Sure v l⁺) w.0 (record { safe = w.1; tie = tie; window = window })

    made_add : (r : ℕ) (f : Figures) (s' : State P) → checks goes rows limit s (add r f) ≡ None → outcome goes rows limit s (add r f) ≡ Ok s' → Sure s' (begin r f l)
    unfolding checks outcome
    made_add r f s' ok e =
        let a = first_none (refused_if (leb rows r) (numbered 1 [])) _ ok in
        let b = first_none (refused_if (is_used (t r)) (numbered 2 [])) _ a.1 in
        let c = first_none (in_range f) _ b.1 in
        let low : r < rows = leb-false rows r (passed _ _ a.0) in
        won (with_slots goes rows limit s (put r (Some (new_row f)) t)) s' (begin r f l)
        (put_within rows r (Some (new_row f)) t low sure.safe.within)
        (put_slots SoundSlot r (Some (new_row f)) t (new_sound f c.0) sure.safe.sound)
        (begin_tie t l r f (empty_when_unused (t r) (passed _ _ b.0)) sure.tie)
        sure.window e

    made_alter : (r : ℕ) (f : Figures) (s' : State P) → checks goes rows limit s (alter r f) ≡ None → outcome goes rows limit s (alter r f) ≡ Ok s' → Sure s' (begin r f (end r l))
    unfolding checks outcome
    made_alter r f s' ok e =
        let a = first_none (refused_if (leb rows r) (numbered 1 [])) _ ok in
        let b = first_none (refused_if (not (is_used (t r))) (numbered 3 [])) _ a.1 in
        let c = first_none (in_range f) _ b.1 in
        let low : r < rows = leb-false rows r (passed _ _ a.0) in
        let used : is_used (t r) ≡ true = not-false _ (passed _ _ b.0) in
        won (with_slots goes rows limit s (put r (Some (new_row f)) t)) s' (begin r f (end r l))
        (put_within rows r (Some (new_row f)) t low sure.safe.within)
        (put_slots SoundSlot r (Some (new_row f)) t (new_sound f c.0) sure.safe.sound)
        (subst (λ u. Tie u (begin r f (end r l))) (put_twice r (Some (new_row f)) None t) (begin_tie (put r None t) (end r l) r f (put_same r None t) (end_tie t l r used sure.tie)))
        sure.window e

    pub made_drop : (r : ℕ) (s' : State P) → checks goes rows limit s (drop r) ≡ None → outcome goes rows limit s (drop r) ≡ Ok s' → Sure s' (end r l)
    unfolding checks outcome
    made_drop r s' ok e =
        let a = first_none (refused_if (leb rows r) (numbered 1 [])) _ ok in
        let b = first_none (refused_if (not (is_used (t r))) (numbered 3 [])) _ a.1 in
        let low : r < rows = leb-false rows r (passed _ _ a.0) in
        subst (λ v. Sure v (end r l)) (same_ok e)
        (record {
          safe = safe_without (goes s.policy) rows s.window t r low sure.safe;
          tie = end_tie t l r (not-false _ (passed _ _ b.0)) sure.tie;
          window = sure.window;
        })

    -- the width of the window changes nothing else
    resized_tie : (w : ℕ) → Tie t (resized w l)
    resized_tie w =
        let tie = sure.tie in
        record { unbroken = tie.unbroken; counts = tie.counts; tied = tie.tied; long = tie.long; in_window = tie.in_window }

    pub made_window : (w : ℕ) (s' : State P) → outcome goes rows limit s (set_window w) ≡ Ok s' → Sure s' (resized w l)
    unfolding outcome
    made_window w s' e = go (leb s.window w) refl e
      where
        go : (b : Bool) → leb s.window w ≡ b → elim b as (λ _. Outcome P) [ true ↦ Ok (with_window goes rows limit s w) | false ↦ rehearsed goes rows limit (with_window goes rows limit s w) ] ≡ Ok s' → Sure s' (resized w l)
        go true is e =
            subst (λ v. Sure v (resized w l)) (same_ok e)
            (record { safe = safe_wider (goes s.policy) rows s.window t w (leb-true s.window w is) sure.safe; tie = resized_tie w; window = refl })
        go false is e = won (with_window goes rows limit s w) s' (resized w l) sure.safe.within sure.safe.sound (resized_tie w) refl e

    made_policy : (p : P) (s' : State P) → outcome goes rows limit s (set_policy p) ≡ Ok s' → Sure s' l
    unfolding outcome
    made_policy p s' e = won (with_policy goes rows limit s p) s' l sure.safe.within sure.safe.sound sure.tie sure.window e

    pub call_kept : ((p : P) → Laws (goes p)) → (call : Call P) → Sure (after goes rows limit s call) (enter rows l call (answer goes rows limit s call))
    unfolding step
    call_kept laws (add r f) =
        by_outcome s l (begin r f l) _ sure (λ s' e. let c = checked (checks goes rows limit s (add r f)) _ s' e in made_add r f s' c.0 c.1)
    call_kept laws (alter r f) =
        by_outcome s l (begin r f (end r l)) _ sure (λ s' e. let c = checked (checks goes rows limit s (alter r f)) _ s' e in made_alter r f s' c.0 c.1)
    call_kept laws (drop r) =
        by_outcome s l (end r l) _ sure (λ s' e. let c = checked (checks goes rows limit s (drop r)) _ s' e in made_drop r s' c.0 c.1)
    call_kept laws (set_window w) =
        by_outcome s l (resized w l) _ sure (λ s' e. let c = checked (checks goes rows limit s (set_window w)) _ s' e in made_window w s' c.1)
    call_kept laws (set_policy p) =
        by_outcome s l l _ sure (λ s' e. let c = checked (checks goes rows limit s (set_policy p)) _ s' e in made_policy p s' c.1)
    call_kept laws (next report) =
        let rules = rules_of goes rows limit s in
        record {
          safe = safe_next rules t sure.safe;
          tie = turn_tie rules t sure.safe.within sure.safe.sound sure.safe.calm l sure.tie (laws s.policy) sure.window;
          window = sure.window;
        }

  -- EVERY LIST of calls
  pub list_kept : ((p : P) → Laws (goes p)) → (calls : List (Call P)) (s : State P) (l : Ledger) → Sure s l → Sure (run goes rows limit s calls) (entered rows l (history goes rows limit s calls))
  unfolding run history entered
  list_kept laws [] s l sure = sure
  list_kept laws (call ∷ calls) s l sure =
      list_kept laws calls (after goes rows limit s call) (enter rows l call (answer goes rows limit s call)) (call_kept s l sure laws call)

  kept_when_sure : (s : State P) (l : Ledger) → Sure s l → Kept l
  kept_when_sure s l sure =
      record {
        unbroken = sure.tie.unbroken;
        accounted = All-weaker _ _ (accounted_when_tied s.slots l) l.messages sure.tie.tied;
        in_window = sure.tie.in_window;
      }

  pub every_list_kept : ((p : P) → Laws (goes p)) → (p : P) (calls : List (Call P)) → Kept (ledger_of goes rows limit p calls)
  every_list_kept laws p calls = kept_when_sure _ _ (list_kept laws calls (fresh p) blank (sure_fresh p))
