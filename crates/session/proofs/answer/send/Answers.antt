use Rattle.std.proofs.Common.{◌≡◌, ◌+◌, ◌<◌, length, codes, subst, [], ◌∷◌, ◌++◌, get_or, drop, sym, ap, ◌∙◌, arith}
use Rattle.std.proofs.lemmas.List.{at_drop_more, at_drop_all}
use Rattle.text.specs.Texts.{grown}
use Rattle.std.specs.Str.{IsAscii}
use Rattle.session.specs.Printed.{hex_byte, sent}
use Rattle.text.proofs.Grown.{pushed}
use Rattle.session.proofs.Texts.{digits, sent_ascii}
use Rattle.session.proofs.answer.send.Goals as goal

pub loop-byte-preserved : goal.loop-byte-preserved
loop-byte-preserved c =
    let items = c.to_le_bytes-byte-items.result in
    let i = c.loop-byte.byte-index in
    let b = get_or items i 0 in
    let rest = digits (drop (i + 1) items) in
    pushed 128 c.push.new.self (hex_byte b) _ rest (c.push_all-in-loop-byte.ensures ∙ ap (grown 128 c.push.new.self) c.hex_byte.ensures)
    ∙ pushed 128 c.loop-byte.text (32 ∷ []) _ (hex_byte b ++ rest) c.push.ensures
    ∙ ap (grown 128 c.loop-byte.text) (sym (at_drop_more digits items i 0 (omega arith)))
    ∙ c.loop-byte.invariant

pub returns : goal.returns
returns c =
    let items = c.to_le_bytes-byte-items.result in
    let value : c.push-2.new.self ≡ sent c.args.rows.word =
    c.push-2.ensures
    ∙ ap (grown 128 c.loop-byte.text) (sym (at_drop_all digits items c.loop-byte.byte-index (omega (arith, ap length c.to_le_bytes-byte-items.ensures))))
    ∙ c.loop-byte.invariant
    ∙ ap (λ bs. grown 128 [] (codes "(send" ++ digits bs)) c.to_le_bytes-byte-items.ensures in
    record {
      value = value;
      short = subst (λ l. length l < 128) (sym value) (omega arith);
      ascii = subst IsAscii (sym value) (sent_ascii c.args.rows.word);
    }
