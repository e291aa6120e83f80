-- The promise over every list of calls. Assumes nothing.
use Rattle.std.specs.Prelude.{◌≡◌, ℕ, ◌+◌, ◌-◌, ◌<◌, ◌≤◌, Bool, true, false, cond, ◌&&◌, ◌≢◌, List, [], ◌∷◌, ◌++◌, map, length, None, sum_by, nat_le, slice_index}
use Rattle.std.specs.List.{AllByRecursion, AllZip}
use Rattle.bus.specs.Refusals.{numbered}
use Rattle.orders.specs.Laws.{Order}
use Rattle.rules.specs.Calls.{Call, Answer, Report, State, fresh, answer, run, history}
use Rattle.rules.specs.Calls.Call.{add, alter, drop, set_window, set_policy, next}
use Rattle.rules.specs.Calls.Answer.{made, declined, schedule}
use Rattle.rules.specs.Ledger.{
  Message,
  Ledger,
  blank,
  entered,
  instance_in,
  is_scheduled,
  is_waiting,
  is_withdrawn,
  lived_to,
  released,
  fates,
  how_many,
  noted_in,
}

-- the account of one message
pub record Accounted (l : Ledger) (m : Message) : Type 0 where
  -- every released instance has exactly one fate
  pub one_fate : (j : ℕ) → 1 ≤ j → j ≤ released l m → fates l m j ≡ 1
  -- every cycle in which it was scheduled lies in its life, and schedules an instance that was released by then
  pub in_life : AllByRecursion (λ c. (m.start < c) × (c ≤ lived_to l m) × (1 ≤ instance_in m c)) m.noted
  -- the numbers add up
  pub adds_up : how_many (released l m) (is_scheduled m) + how_many (released l m) (is_waiting l m) + how_many (released l m) (is_withdrawn m) ≡ released l m
  -- and all but one at most are scheduled
  pub at_most_one : how_many (released l m) (is_waiting l m) + how_many (released l m) (is_withdrawn m) ≤ 1

-- the durations of the messages that were scheduled in cycle c
abbrev pub units_in : ℕ → List Message → ℕ
units_in c ms = sum_by (λ m. cond (noted_in c m) m.figures.duration 0) ms

-- what a ledger must show
pub record Kept (l : Ledger) : Type 0 where
  pub unbroken : l.broken ≡ false
  pub accounted : AllByRecursion (Accounted l) l.messages
  -- no cycle schedules more than its window
  pub in_window : (c : ℕ) → 1 ≤ c → c ≤ l.count → units_in c l.messages ≤ slice_index l.windows (c - 1)

-- one message in two ledgers: where it lives in both, each instance that the second has scheduled the first has scheduled no later
pub record NoLater (a b : Message) : Type 0 where
  pub row : a.row ≡ b.row
  pub figures : a.figures ≡ b.figures
  pub start : a.start ≡ b.start
  pub sooner : a.ended ≡ None → b.ended ≡ None → (c : ℕ) → noted_in c b ≡ true → (c' : ℕ) × (noted_in c' a ≡ true) × (c' ≤ c) × (instance_in a c' ≡ instance_in b c)

abbrev pub is_made : Answer → Bool
is_made made = true
is_made (declined told) = false
is_made (schedule w) = false

module _ {P : Type 0} (goes : P → Order) (rows limit : ℕ) where
  -- the ledger of a list of calls to a master that was just made
  abbrev pub ledger_of : P → List (Call P) → Ledger
  ledger_of p calls = entered rows blank (history goes rows limit (fresh p) calls)

  -- a drop, or a window at least as wide as the present one, that is made
  abbrev pub relieves : State P → Call P → Bool
  relieves s (add r f) = false
  relieves s (alter r f) = false
  relieves s (drop r) = is_made (answer goes rows limit s (drop r))
  relieves s (set_window w) = nat_le s.window w && is_made (answer goes rows limit s (set_window w))
  relieves s (set_policy p) = false
  relieves s (next report) = false

  -- THE PROMISE
  pub record Promise : Type 0 where
    -- whatever the first policy and the calls, the ledger shows what it must
    pub kept : (p : P) (calls : List (Call P)) → Kept (ledger_of p calls)
    -- after a relief no message is scheduled later than it would have been without it, however many cycles on
    pub no_later : (p : P) (calls : List (Call P)) (relief : Call P) → relieves (run goes rows limit (fresh p) calls) relief ≡ true
        → (reports others : List Report) → length reports ≡ length others
        → AllZip NoLater (ledger_of p (calls ++ relief ∷ map next reports)).messages (ledger_of p (calls ++ map next others)).messages

  -- what is in the table can be rehearsed: a new policy or another window is never declined for a round that is too long
  pub record RoundsKnown : Type 0 where
    pub policy : (p : P) (calls : List (Call P)) (q : P) → answer goes rows limit (run goes rows limit (fresh p) calls) (set_policy q) ≢ declined (numbered 6 [])
    pub window : (p : P) (calls : List (Call P)) (w : ℕ) → answer goes rows limit (run goes rows limit (fresh p) calls) (set_window w) ≢ declined (numbered 6 [])
