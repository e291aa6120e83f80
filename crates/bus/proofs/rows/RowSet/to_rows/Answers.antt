use Rattle.std.proofs.Common.{rules, ◌≡◌, false, ap, ◌∙◌, arith}
use Rattle.bus.specs.Rows.{word_of, members, member}
use Rattle.bus.proofs.Made.{made_is}
use Rattle.bus.proofs.Words.{tests_member, members_by_rows, word_of_members}
use Rattle.bus.proofs.rows.RowSet.to_rows.Goals as goal

whole : (c : goal.After-from_fn) → c.from_fn.result ≡ members 32 c.args.self.word
whole c =
    members_by_rows 32 c.args.self.word c.from_fn.result c.from_fn.ensures.items.long (λ k h. made_is _ _ (member c.args.self.word) (λ k y q call. let bit = tests_member c.args.self.word k in search rules) _ 32 c.from_fn.ensures.items k false h)

pub returns : goal.returns
returns c = record { value = whole c; kept = ap word_of (whole c) ∙ word_of_members 32 c.args.self.word (omega arith) }
