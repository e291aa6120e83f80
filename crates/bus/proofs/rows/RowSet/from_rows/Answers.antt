use Rattle.std.proofs.Common.{◌≡◌, ◌*◌, ◌%◌, ◌^◌, sym, refl, ap, ◌∙◌, arith}
use lib.Bits.{bit_or}
use Rattle.std.proofs.lemmas.List.{take_all}
use Rattle.bus.specs.Rows.{word_of, members}
use Rattle.bus.proofs.Words.{word_of_set, word_of_left, members_word_of}
use Rattle.bus.proofs.rows.RowSet.from_rows.Goals as goal
use Rattle.bus.proofs.rows.RowSet.from_rows.Goals.{then-in_set, else-in_set}

pub loop-r-init : goal.loop-r-init
unfolding word_of
loop-r-init c = refl

pub loop-r-preserved : goal.loop-r-preserved
loop-r-preserved c =
    elim c.if-in_set.branch [
      | then-in_set w ↦ w.word-is ∙ ap (λ v. bit_or v ((1 * 2 ^ c.loop-r.r) % 2 ^ 32)) c.loop-r.invariant ∙ word_of_set c.args.rows.now c.loop-r.r (omega arith) (omega arith) w.if-in_set.true
      | else-in_set w ↦ w.word-is ∙ c.loop-r.invariant ∙ word_of_left c.args.rows.now c.loop-r.r (omega arith) w.if-in_set.false
    ]

whole : (c : goal.After-loop-r) → c.loop-r.word ≡ word_of c.args.rows.now
whole c = c.loop-r.invariant ∙ ap word_of (take_all c.loop-r.r c.args.rows.now (omega arith))

pub returns-clause-kept : goal.returns-clause-kept
returns-clause-kept c =
    ap (members 32) (whole c) ∙ ap (λ n. members n (word_of c.args.rows.now)) (sym c.told-rows) ∙ members_word_of c.args.rows.now
