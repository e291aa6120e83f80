use Rattle.std.proofs.Common.{sym, ap, ◌∙◌, subst, length, ◌<◌, arith}
use Rattle.std.proofs.lemmas.List.{at_drop_all, take_all}
use Rattle.std.specs.Str.{IsAscii}
use Rattle.text.specs.Texts.{grown}
use Rattle.session.specs.Printed.{worded}
use Rattle.session.proofs.Texts.{worded_more, worded_short, worded_ascii}
use Rattle.session.proofs.answer.worded.Goals as goal

pub loop-words-preserved : goal.loop-words-preserved
loop-words-preserved c =
    worded_more _ c.args.numbered.now c.args.end.now c.loop-words.words-index c.loop-words.text c.push_all.new.self c.push_number.new.self c.loop-words-test.true c.push_all.ensures c.push_number.ensures
    ∙ c.loop-words.invariant

pub returns : goal.returns
returns c =
    let ps = c.args.numbered.now in
    let end = c.args.end.now in
    let short = worded_short ps end c.requires in
    let value =
    c.push_all-2.ensures
    ∙ ap (grown 128 c.loop-words.text) (sym (at_drop_all (λ qs. worded qs end) ps c.loop-words.words-index (omega arith)))
    ∙ c.loop-words.invariant
    ∙ take_all 128 (worded ps end) (omega arith) in
    record {
      value = value;
      short = subst (λ l. length l < 128) (sym value) short;
      ascii = subst IsAscii (sym value) (worded_ascii ps end c.requires);
    }
