-- The laws of the orders by a key, and of a group before an order. Assumes nothing.
use Rattle.std.specs.Prelude.{ℕ, Bool}
use Rattle.std.proofs.Common.{arith}
use Rattle.std.proofs.lemmas.Bool.Decides.{nat_tests}
use Rattle.orders.specs.ByKey.{by_key}
use Rattle.orders.specs.Groups.{group_first}
use Rattle.orders.specs.Laws.{Laws, Order}
use Rattle.orders.specs.declared.instance.Instance.{Instance}

pub by_key_lawful : (key : Instance → ℕ) → Laws (by_key key)
by_key_lawful key = record {
  same_row = λ a b same. grind (arith, nat_tests);
  one_way = λ a b apart. grind (arith, nat_tests);
  chain = λ a b c apart first second. grind (arith, nat_tests);
}

pub group_first_lawful : (in_group : Instance → Bool) (below : Order) → Laws below → Laws (group_first in_group below)
group_first_lawful in_group below laws = record {
  same_row = λ a b same. let h = laws.same_row a b same in grind (arith, nat_tests);
  one_way = λ a b apart. let h = laws.one_way a b apart in grind (arith, nat_tests);
  chain = λ a b c apart first second. let h = laws.chain a b c apart in grind (arith, nat_tests);
}
