-- The ledger: what an observer of calls and answers alone can tell of every message. Assumes nothing.
use Rattle.std.specs.Prelude.{ℕ, zero, suc, ◌+◌, ◌-◌, ◌*◌, ◌/◌, ◌^◌, ◌<◌, ◌≤◌, Bool, true, false, cond, not, ◌&&◌, ◌||◌, ◌↔◌, List, [], ◌∷◌, ◌++◌, map, is_some, Some, None, count_by, Option, ◌==◌, nat_eq, nat_le, nat_lt}
use Rattle.bus.specs.Rows.{member}
use Rattle.engine.specs.declared.row.Figures.{Figures}
use Rattle.engine.specs.Rehearsal.{every}
use Rattle.rules.specs.Calls.{Call, Answer}
use Rattle.rules.specs.Calls.Call.{add, alter, drop, set_window, set_policy, next}
use Rattle.rules.specs.Calls.Answer.{made, declined, schedule}

-- a message from the moment it is added; cycles are counted from 1, and cycle c makes the count c
pub record Message : Type 0 where
  pub row : ℕ
  pub figures : Figures
  -- the count when it was added
  pub start : ℕ
  -- the count when it ended, if it has
  pub ended : Option ℕ
  -- the cycles in which it was scheduled, the latest first
  pub noted : List ℕ

pub record Ledger : Type 0 where
  -- the cycles so far
  pub count : ℕ
  pub window : ℕ
  -- the latest first; those that ended stay
  pub messages : List Message
  -- the window of each cycle so far, that of cycle 1 first
  pub windows : List ℕ
  -- an answer did not fit the account
  pub broken : Bool

-- the ledger of a master that was just made
abbrev pub blank : Ledger
blank = record { count = 0; window = 255; messages = []; windows = []; broken = false }

abbrev pub is_live : Message → Bool
is_live m = not (is_some m.ended)

-- a live message of row r
abbrev pub live_on : ℕ → Message → Bool
live_on r m = is_live m && m.row == r

-- some message of a list passes a test
abbrev pub any : (Message → Bool) → List Message → Bool
any test ms = nat_lt 0 (count_by test ms)

-- INSTANCES. A message's instances have the numbers 1, 2, and so on.

-- the instances released in the first n cycles of a message's life
abbrev pub releases : Figures → ℕ → ℕ
releases f n = cond (nat_le n f.phase) 0 (1 + (n - f.phase - 1) / f.period)

-- the cycle of a message's life in which instance j is released
abbrev pub release_cycle : Figures → ℕ → ℕ
release_cycle f j = f.phase + 1 + (j - 1) * f.period

-- that is the one: instance j is released in the first n cycles exactly if its cycle is one of them
abbrev pub ReleasedThere : Type 0
ReleasedThere = (f : Figures) → 0 < f.period → (j n : ℕ) → 1 ≤ j → (j ≤ releases f n) ↔ (release_cycle f j ≤ n)

-- the last cycle before the deadline of instance j
abbrev pub last_cycle : Message → ℕ → ℕ
last_cycle m j = m.start + release_cycle m.figures j + (m.figures.deadline - 1)

-- the instance that a message has last released by cycle c, which is the one that is scheduled if the message is; 0 where it has none yet
abbrev pub instance_in : Message → ℕ → ℕ
instance_in m c = releases m.figures (c - m.start)

-- ENTRIES. How each call and its answer change the ledger.

-- an answer that does not fit
abbrev pub breach : Ledger → Ledger
breach l = record { count = l.count; window = l.window; messages = l.messages; windows = l.windows; broken = true }

-- a made add; a live message on that row is a breach
abbrev pub begin : ℕ → Figures → Ledger → Ledger
begin r f l =
    record {
      count = l.count;
      window = l.window;
      messages = record { row = r; figures = f; start = l.count; ended = None; noted = [] } ∷ l.messages;
      windows = l.windows;
      broken = l.broken || any (live_on r) l.messages;
    }

-- a live message of row r ends now
abbrev pub end_on : (r now : ℕ) → Message → Message
end_on r now m =
    record { row = m.row; figures = m.figures; start = m.start; ended = cond (live_on r m) (Some now) m.ended; noted = m.noted }

-- a made drop; no live message on that row is a breach
abbrev pub end : ℕ → Ledger → Ledger
end r l =
    record {
      count = l.count;
      window = l.window;
      messages = map (end_on r l.count) l.messages;
      windows = l.windows;
      broken = l.broken || not (any (live_on r) l.messages);
    }

-- a made window
abbrev pub resized : ℕ → Ledger → Ledger
resized w l = record { count = l.count; window = w; messages = l.messages; windows = l.windows; broken = l.broken }

-- a live message of row r with an instance released by cycle c
abbrev pub ready_on : (r c : ℕ) → Message → Bool
ready_on r c m = live_on r m && nat_le 1 (instance_in m c)

-- each row of a word has a message that is ready in cycle c, and no bit of it is past the rows
abbrev pub word_fits : (rows word c : ℕ) → List Message → Bool
word_fits rows w c ms = nat_lt w (2 ^ rows) && every rows (λ r. not (member w r) || any (ready_on r c) ms)

-- a live message whose row is in the word is noted in cycle c
abbrev pub note : (word c : ℕ) → Message → Message
note w c m =
    record { row = m.row; figures = m.figures; start = m.start; ended = m.ended; noted = cond (is_live m && member w m.row) (c ∷ m.noted) m.noted }

-- a cycle with its schedule
abbrev pub turn : (rows word : ℕ) → Ledger → Ledger
turn rows w l =
    let c = l.count + 1 in
    record {
      count = c;
      window = l.window;
      messages = map (note w c) l.messages;
      windows = l.windows ++ l.window ∷ [];
      broken = l.broken || not (word_fits rows w c l.messages);
    }

-- a change that was made is entered, one that was declined changes nothing, and a schedule is no answer to a change
abbrev pub by_answer : (entered now : Ledger) → Answer → Ledger
by_answer entered l made = entered
by_answer entered l (declined told) = l
by_answer entered l (schedule w) = breach l

-- a cycle must answer its schedule
abbrev pub by_schedule : (rows : ℕ) → Ledger → Answer → Ledger
by_schedule rows l made = breach l
by_schedule rows l (declined told) = breach l
by_schedule rows l (schedule w) = turn rows w l

-- one call with its answer
abbrev pub enter : {P : Type 0} → (rows : ℕ) → Ledger → Call P → Answer → Ledger
enter rows l (add r f) a = by_answer (begin r f l) l a
enter rows l (alter r f) a = by_answer (begin r f (end r l)) l a
enter rows l (drop r) a = by_answer (end r l) l a
enter rows l (set_window w) a = by_answer (resized w l) l a
enter rows l (set_policy p) a = by_answer l l a
enter rows l (next report) a = by_schedule rows l a

-- the ledger after a history
unfoldable pub entered : {P : Type 0} → (rows : ℕ) → Ledger → List (Call P × Answer) → Ledger
entered rows l [] = l
entered rows l (x ∷ xs) = entered rows (enter rows l x.0 x.1) xs

-- FATES of the instances of a message.

-- how often instance j was scheduled
abbrev pub times : Message → ℕ → ℕ
times m j = count_by (λ c. nat_eq (instance_in m c) j) m.noted

-- how often in time
abbrev pub times_in_time : Message → ℕ → ℕ
times_in_time m j = count_by (λ c. (instance_in m c == j) && nat_le c (last_cycle m j)) m.noted

-- once, and in time
abbrev pub is_scheduled : Message → ℕ → Bool
is_scheduled m j = times m j == 1 && times_in_time m j == 1

-- not yet, and its last cycle is to come
abbrev pub is_waiting : Ledger → Message → ℕ → Bool
is_waiting l m j = times m j == 0 && is_live m && nat_lt l.count (last_cycle m j)

-- whether a message's end, if it has one, came before cycle c
abbrev pub ended_before : ℕ → Option ℕ → Bool
ended_before c None = false
ended_before c (Some e) = nat_lt e c

-- never, since its message ended before its last cycle
abbrev pub is_withdrawn : Message → ℕ → Bool
is_withdrawn m j = times m j == 0 && ended_before (last_cycle m j) m.ended

-- the count up to which a message lived
abbrev pub lived_to : Ledger → Message → ℕ
lived_to l m = elim m.ended [ Some e ↦ e | None ↦ l.count ]

-- the instances that a message has released in its life so far
abbrev pub released : Ledger → Message → ℕ
released l m = instance_in m (lived_to l m)

-- one for a test that passes
abbrev pub one_if : Bool → ℕ
one_if b = cond b 1 0

-- how many of the three fates instance j has
abbrev pub fates : Ledger → Message → ℕ → ℕ
fates l m j = one_if (is_scheduled m j) + one_if (is_waiting l m j) + one_if (is_withdrawn m j)

-- how many of the instances 1 to n pass a test
unfoldable pub how_many : ℕ → (ℕ → Bool) → ℕ
how_many zero test = 0
how_many (suc n) test = how_many n test + one_if (test (suc n))

-- a message was scheduled in cycle c
abbrev pub noted_in : ℕ → Message → Bool
noted_in c m = nat_lt 0 (count_by (nat_eq c) m.noted)
