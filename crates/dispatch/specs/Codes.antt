-- An answer as the one number that a C program gets. Assumes nothing.
use Rattle.std.specs.Prelude.{ℕ, ◌+◌, Ok, Err, Result}
use Rattle.bus.specs.Refusals.{Told}

-- units are below 1,000, and refusals above
abbrev pub units_code : Result ℕ Told → ℕ
units_code (Ok units) = units
units_code (Err told) = 1000 + told.number

-- 0: it was written
abbrev pub written_code : Result (Unit {0}) Told → ℕ
written_code (Ok done) = 0
written_code (Err told) = told.number
