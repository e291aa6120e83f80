-- The worked tables, by computing.
use Rattle.std.proofs.Common.{refl}
use Rattle.bus.specs.Rows.{word_of}
use Rattle.engine.specs.Cycle.{lowest, waiters, load, cycle, late, late_row, word}
use Rattle.engine.specs.Rehearsal.{every, first_from, round, lead_in, settled, stretch, rounds, verdict}
use Rattle.rules.specs.Calls.{rehearsed, checks, outcome, step, history}
use Rattle.worked.proofs.tables.worked_tables.Goals as goal

pub returns : goal.returns
unfolding history step checks outcome rehearsed lowest waiters load cycle late late_row word every first_from round lead_in settled stretch rounds verdict word_of
returns c = refl
