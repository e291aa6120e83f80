-- An order that the library does not have. Assumes nothing.
use Rattle.std.specs.Prelude.{nat_lt}
use Rattle.std.proofs.Common.{arith}
use Rattle.std.proofs.lemmas.Bool.Decides.{nat_tests}
use Rattle.orders.specs.Laws.{Laws, Order}

-- the lower row first
abbrev pub lower_row : Order
lower_row a b = nat_lt a.row b.row

pub lower_row_lawful : Laws lower_row
lower_row_lawful = record {
  same_row = λ a b same. grind (arith, nat_tests);
  one_way = λ a b apart. grind (arith, nat_tests);
  chain = λ a b c apart first second. grind (arith, nat_tests);
}
