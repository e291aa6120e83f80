use Rattle.std.proofs.Common.{length, sym, ap, ◌∙◌, refl, arith, rules}
use Rattle.lines.proofs.Cuts.{cut_at, none_at}
use Rattle.lines.proofs.part.RestIterator.next.Goals as goal

pub returns-in_err-len : goal.returns-in_err-len
returns-in_err-len c =
    let line = c.args.self.now.line.now in
    let gone = none_at line c.in_ok-rest.rest.now c.args.self.now.at c.in_ok-rest.ensures.lookup.0.2 (sym c.part_len.ensures ∙ c.in_err-len.was) in
    search rules

pub returns : goal.returns
returns c =
    let line = c.args.self.now.line.now in
    let found = cut_at line c.in_ok-rest.rest.now c.args.self.now.at c.in_ok-rest.ensures.lookup.0.2 c.in_ok-len.len (sym c.part_len.ensures ∙ c.in_ok-len.was) in
    let fewer = ap length found in
    record {
      steps = (found, refl);
      goes = record { on = λ _. (tt, tt, omega (arith, fewer)); keeps = tt; rests = λ _. tt };
    }
