-- Small histories, worked out: what a good ledger shows, and how bad ones are found out. Assumes nothing.
use Rattle.std.proofs.Common.{◌≡◌, ℕ, zero, suc, Bool, true, false, List, [], ◌∷◌, ◌++◌, map, refl}
use Rattle.bus.specs.Refusals.{numbered}
use Rattle.orders.specs.ByKey.{rate_monotonic}
use Rattle.orders.specs.Laws.{Order}
use Rattle.engine.specs.declared.row.Figures.{Figures}
use Rattle.rules.specs.Calls.{Call, Answer, fresh, rehearsed, checks, outcome, step, history}
use Rattle.rules.specs.Calls.Call.{add, alter, drop, set_window, next}
use Rattle.rules.specs.Calls.Answer.{made, declined, schedule}
use Rattle.rules.specs.Calls.Report.{sent, lost}
use Rattle.rules.specs.Promise.{units_in}
use Rattle.rules.specs.Ledger.{Message, Ledger, blank, entered, released, fates}
use Rattle.engine.specs.Cycle.{lowest, waiters, load, cycle, late, late_row, word}
use Rattle.engine.specs.Rehearsal.{every, first_from, round, lead_in, settled, stretch, rounds, verdict}
use Rattle.bus.specs.Rows.{word_of}

-- a bus of four rows on which the shorter period goes first
abbrev by_rate : Unit {0} → Order
by_rate p = rate_monotonic

abbrev message : (duration period deadline phase : ℕ) → Figures
message c t d ph = record { duration = c; period = t; deadline = d; phase = ph; priority = 0 }

abbrev asked : List (Call (Unit {0})) → List (Call (Unit {0}) × Answer)
asked calls = history by_rate 4 100 (fresh tt) calls

abbrev answers : List (Call (Unit {0}) × Answer) → List Answer
answers [] = []
answers (x ∷ xs) = x.1 ∷ answers xs

abbrev ledger : List (Call (Unit {0}) × Answer) → Ledger
ledger xs = entered 4 blank xs

-- how many fates each of the instances n down to 1 has
fates_to : Ledger → Message → ℕ → List ℕ
fates_to l m zero = []
fates_to l m (suc n) = fates l m (suc n) ∷ fates_to l m n

-- and for all that each message has released, the latest message first
all_fates : List Message → Ledger → List (List ℕ)
all_fates [] l = []
all_fates (m ∷ ms) l = fates_to l m (released l m) ∷ all_fates ms l

abbrev shown : List (Call (Unit {0}) × Answer) → Bool × List (List ℕ)
shown xs = ((ledger xs).broken, all_fates (ledger xs).messages (ledger xs))

-- row 2 would be late at once; the altered row 0 begins anew, and one instance of row 1 is withdrawn
abbrev good : List (Call (Unit {0}))
good =
    set_window 10
    ∷ add 0 (message 6 2 2 0)
    ∷ add 1 (message 5 4 4 1)
    ∷ add 2 (message 9 2 1 0)
    ∷ next sent
    ∷ next lost
    ∷ next sent
    ∷ alter 0 (message 6 3 3 0)
    ∷ next sent
    ∷ drop 1
    ∷ next sent
    ∷ []

good_answers : answers (asked good)
    ≡ made ∷ made ∷ made ∷ declined (numbered 7 (2 ∷ 1 ∷ [])) ∷ schedule 1 ∷ schedule 2 ∷ schedule 1 ∷ made ∷ schedule 1 ∷ made ∷ schedule 0 ∷ []
unfolding history step checks outcome rehearsed lowest waiters load cycle late late_row word every first_from round lead_in settled stretch rounds verdict word_of
good_answers = refl

good_ledger : shown (asked good) ≡ (false, (1 ∷ []) ∷ (1 ∷ []) ∷ (1 ∷ 1 ∷ []) ∷ [])
unfolding history step checks outcome rehearsed lowest waiters load cycle late late_row word every first_from round lead_in settled stretch rounds verdict word_of entered all_fates fates_to
good_ledger = refl

-- what the checks decline, in their order
abbrev declined_calls : List (Call (Unit {0}))
declined_calls =
    add 4 (message 0 0 0 0)
    ∷ drop 0
    ∷ add 0 (message 0 0 0 0)
    ∷ add 0 (message 1 0 0 0)
    ∷ add 0 (message 1 2 3 0)
    ∷ add 0 (message 6 2 2 0)
    ∷ add 0 (message 0 0 0 0)
    ∷ set_window 0
    ∷ set_window 5
    ∷ add 1 (message 1 101 1 0)
    ∷ add 1 (message 255 2 2 0)
    ∷ add 1 (message 250 2 1 0)
    ∷ []

declined_answers : answers (asked declined_calls)
    ≡ declined (numbered 1 [])
    ∷ declined (numbered 3 [])
    ∷ declined (numbered 4 (1 ∷ []))
    ∷ declined (numbered 4 (2 ∷ []))
    ∷ declined (numbered 4 (3 ∷ []))
    ∷ made
    ∷ declined (numbered 2 [])
    ∷ declined (numbered 4 (4 ∷ []))
    ∷ declined (numbered 5 (0 ∷ []))
    ∷ declined (numbered 6 [])
    ∷ made
    ∷ declined (numbered 2 [])
    ∷ []
unfolding history step checks outcome rehearsed lowest waiters load cycle late late_row word every first_from round lead_in settled stretch rounds verdict word_of
declined_answers = refl

-- BAD HISTORIES, of no master that keeps the promise.

abbrev added : (period deadline phase : ℕ) → Call (Unit {0}) × Answer
added period deadline phase = (add 0 (message 1 period deadline phase), made)

abbrev told : ℕ → Call (Unit {0}) × Answer
told w = (next sent, schedule w)

-- an instance is missed
missed : shown (added 2 1 0 ∷ told 0 ∷ told 0 ∷ told 1 ∷ []) ≡ (false, (1 ∷ 0 ∷ []) ∷ [])
unfolding entered every all_fates fates_to
missed = refl

-- scheduled after its deadline
late_one : shown (added 3 1 0 ∷ told 0 ∷ told 1 ∷ []) ≡ (false, (0 ∷ []) ∷ [])
unfolding entered every all_fates fates_to
late_one = refl

-- scheduled twice
twice : shown (added 3 3 0 ∷ told 1 ∷ told 1 ∷ []) ≡ (false, (0 ∷ []) ∷ [])
unfolding entered every all_fates fates_to
twice = refl

-- given up after its last cycle
given_up_late : shown (added 3 1 0 ∷ told 0 ∷ (drop 0, made) ∷ []) ≡ (false, (0 ∷ []) ∷ [])
unfolding entered every all_fates fates_to
given_up_late = refl

abbrev broken_by : List (Call (Unit {0}) × Answer) → Bool
broken_by xs = (ledger xs).broken

-- a row without a message, a bit past the rows, a row before its release, an add over a live row, a drop of a free one, and answers of the wrong kind
breaches : map broken_by
    ((added 3 3 0 ∷ told 2 ∷ [])
    ∷ (told 16 ∷ [])
    ∷ (added 3 3 2 ∷ told 0 ∷ told 1 ∷ [])
    ∷ (added 3 3 0 ∷ added 3 3 0 ∷ [])
    ∷ (added 3 3 0 ∷ (drop 0, made) ∷ (drop 0, made) ∷ [])
    ∷ ((alter 0 (message 1 1 1 0), made) ∷ [])
    ∷ ((next sent, made) ∷ [])
    ∷ ((next lost, declined (numbered 1 [])) ∷ [])
    ∷ ((drop 0, schedule 0) ∷ [])
    ∷ [])
    ≡ true ∷ true ∷ true ∷ true ∷ true ∷ true ∷ true ∷ true ∷ true ∷ []
unfolding entered every
breaches = refl

-- more than the window is scheduled: six units in a window of five
abbrev overfull : Ledger
overfull = ledger ((set_window 5, made) ∷ (add 0 (message 3 2 2 0), made) ∷ (add 1 (message 3 2 2 0), made) ∷ told 3 ∷ [])

overfull_units : units_in 1 overfull.messages ∷ overfull.windows ≡ 6 ∷ 5 ∷ []
unfolding entered every
overfull_units = refl

-- A RELIEF: without row 0, row 1 goes a cycle sooner each time

abbrev before : List (Call (Unit {0}))
before = set_window 10 ∷ add 0 (message 6 2 2 0) ∷ add 1 (message 5 4 4 0) ∷ []

abbrev notes : List (Call (Unit {0})) → List (ℕ × List ℕ)
notes calls = map (λ m. (m.row, m.noted)) (ledger (asked calls)).messages

abbrev cycles : List (Call (Unit {0}))
cycles = next sent ∷ next sent ∷ next sent ∷ next sent ∷ next sent ∷ next sent ∷ []

without_relief : notes (before ++ cycles) ≡ (1, 6 ∷ 2 ∷ []) ∷ (0, 5 ∷ 3 ∷ 1 ∷ []) ∷ []
unfolding history step checks outcome rehearsed lowest waiters load cycle late late_row word every first_from round lead_in settled stretch rounds verdict word_of entered
without_relief = refl

with_relief : notes (before ++ drop 0 ∷ cycles) ≡ (1, 5 ∷ 1 ∷ []) ∷ (0, []) ∷ []
unfolding history step checks outcome rehearsed lowest waiters load cycle late late_row word every first_from round lead_in settled stretch rounds verdict word_of entered
with_relief = refl

-- WITHOUT LAWS an order keeps no window: where none goes before another, both of these are scheduled at once

abbrev lawless : List (Call (Unit {0}) × Answer)
lawless = history (λ p a b. false) 4 100 (fresh tt) (add 0 (message 200 2 2 0) ∷ add 1 (message 200 2 2 0) ∷ next sent ∷ [])

lawless_units : units_in 1 (ledger lawless).messages ∷ (ledger lawless).windows ≡ 400 ∷ 255 ∷ []
unfolding history step checks outcome rehearsed lowest waiters load cycle late late_row word every first_from round lead_in settled stretch rounds verdict word_of entered
lawless_units = refl
