use Rattle.std.proofs.Common.{rules, ◌≡◌, ◌-◌, ◌∷◌, [], ap, ◌∙◌, arith}
use lib.Bits.{bit_and}
use lib.Count.{count_trailing_zeros}
use Rattle.bus.specs.Rows.{rows_of}
use Rattle.bus.proofs.Rising.{rows_end, rows_next}
use Rattle.bus.proofs.rows.MembersIterator.next.Goals as goal

pub returns-then-self-eq0-clause-steps : goal.returns-then-self-eq0-clause-steps
returns-then-self-eq0-clause-steps c = let none : rows_of c.args.self.now.rest ≡ [] = ap rows_of c.if-self-eq0.true ∙ rows_end in (none, none)

step : (c : goal.After-self-1) → rows_of c.args.self.now.rest ≡ count_trailing_zeros 32 c.args.self.now.rest ∷ rows_of (bit_and c.args.self.now.rest (c.args.self.now.rest - 1))
step c = rows_next c.args.self.now.rest (omega arith) (omega arith)

pub returns-clause-steps : goal.returns-clause-steps
returns-clause-steps c = step c

pub returns-clause-goes : goal.returns-clause-goes
returns-clause-goes c = let first = step c in search rules
