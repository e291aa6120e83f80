-- The rehearsal of a table, from the counters that it has. Assumes nothing.
use Rattle.std.specs.Prelude.{ℕ, zero, suc, ◌+◌, ◌%◌, max, Bool, true, false, not, ◌&&◌, ◌||◌, Some, None, Option, ◌==◌}
use Rattle.std.specs.Option.{option_map}
use Rattle.engine.specs.declared.row.Row.{Row}
use Rattle.engine.specs.declared.verdict.Verdict.{Verdict}
use Rattle.engine.specs.declared.verdict.Verdict.TheVariants.{Settled, Late, Unsettled}
use Rattle.engine.specs.Rows.{waits}
use Rattle.engine.specs.Cycle.{Slots, Rules, used_and, cycle, late_row}

-- a test passes at each row below n
unfoldable pub every : ℕ → (ℕ → Bool) → Bool
every zero test = true
every (suc n) test = every n test && test n

-- the first number that passes a test, from one on, in so many tries
unfoldable pub first_from : (tries from : ℕ) → (ℕ → Bool) → Option ℕ
first_from zero from test = None
first_from (suc tries) from test = elim (test from) [ true ↦ Some from | false ↦ first_from tries (suc from) test ]

-- an empty row has no period to divide by
abbrev pub divided_by : Option Row → ℕ → Bool
divided_by None m = true
divided_by (Some row) m = m % row.figures.period == 0

-- the round: the least number, from 1 to a limit, that every used row's period divides
unfoldable pub round : (limit rows : ℕ) → Slots → Option ℕ
round limit rows t = first_from limit 1 (λ m. every rows (λ r. divided_by (t r) m))

abbrev pub wait_of : Option Row → ℕ
wait_of None = 0
wait_of (Some row) = row.wait

-- the lead-in: the greatest wait of the first n rows
unfoldable pub lead_in : ℕ → Slots → ℕ
lead_in zero t = 0
lead_in (suc n) t = max (lead_in n t) (wait_of (t n))

-- every row that waits at the end also waited at the start
unfoldable pub settled : ℕ → Slots → Slots → Bool
settled n start end = every n (λ r. not (used_and waits (end r)) || used_and waits (start r))

-- so many cycles, the first of which is cycle `coming`: a late row ends them, else what follows decides
unfoldable pub stretch : Rules → (cycles coming : ℕ) → (Slots → Verdict) → Slots → Verdict
stretch rules zero coming next t = next t
stretch rules (suc k) coming next t = elim (late_row rules t) [ Some r ↦ Late r coming | None ↦ stretch rules k (coming + 1) next (cycle rules t) ]

-- at most so many rounds, up to the first at whose end the table has settled
unfoldable pub rounds : Rules → (round left coming : ℕ) → Slots → Verdict
rounds rules round zero coming t = Unsettled
rounds rules round (suc left) coming t =
    stretch rules round coming (λ u. elim (settled rules.rows t u) [ true ↦ Settled | false ↦ rounds rules round left (coming + round) u ]) t

-- the lead-in, and then at most four rounds
unfoldable pub verdict : Rules → (round : ℕ) → Slots → Verdict
verdict rules round t =
    let lead = lead_in rules.rows t in
    stretch rules lead 1 (rounds rules round 4 (1 + lead)) t

-- a table whose round is above the limit is not rehearsed
abbrev pub rehearsed : Rules → (limit : ℕ) → Slots → Option Verdict
rehearsed rules limit t = option_map (λ cycles. verdict rules cycles t) (round limit rules.rows t)
