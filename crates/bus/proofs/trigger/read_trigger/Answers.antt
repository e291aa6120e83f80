use Rattle.std.proofs.Common.{rules, ◌≡◌, ℕ, ◌+◌, ◌<◌, ◌≤◌, length, get_or, subst, arith}
use Rattle.std.proofs.lemmas.Bool.Decides.{nat_tests}
use Rattle.std.proofs.lemmas.Grind.{common_steps}
use Rattle.bus.specs.Triggers.{trigger_bytes, trigger_word, NamedIn, put_at}
use Rattle.bus.proofs.Triggers.{read_names, read_writes_back}
use Rattle.bus.proofs.trigger.read_trigger.Goals as goal

byte : (c : goal.After-from_le_bytes) (i : ℕ) → get_or c.args.buffer.now i 0 < 256
byte c i = (c.type_inv.buffer i).fits

room : (c : goal.After-from_le_bytes) → c.args.offset + 4 ≤ length c.args.buffer.now
room c = search rules

read : (c : goal.After-from_le_bytes) → trigger_word c.args.buffer.now c.args.offset ≡ c.from_le_bytes.result
read c = grind (arith, common_steps)

pub returns-clause-value : goal.returns-clause-value
returns-clause-value c = let there = room c in let word = read c in grind (arith, nat_tests)

pub returns-clause-places : goal.returns-clause-places
returns-clause-places c = subst (λ w. NamedIn w c.args.buffer.now c.args.offset) (read c) (read_names _ _ (byte c))

pub returns-clause-writes_back : goal.returns-clause-writes_back
returns-clause-writes_back c =
    subst (λ w. put_at c.args.offset (trigger_bytes w) c.args.buffer.now ≡ c.args.buffer.now) (read c) (read_writes_back _ _ (byte c) (room c))
