-- What an order over waiting instances owes. Assumes nothing.
use Rattle.std.specs.Prelude.{◌≡◌, Bool, true, false, not, ◌≢◌}
use Rattle.orders.specs.declared.instance.Instance.{Instance}

-- `goes a b`: a goes before b
abbrev pub Order : Type 0
Order = Instance → Instance → Bool

pub record Laws (goes : Order) : Type 0 where
  -- of two instances of one row neither goes first, whatever their other numbers
  pub same_row : (a b : Instance) → a.row ≡ b.row → goes a b ≡ false
  -- of two different rows exactly one goes first
  pub one_way : (a b : Instance) → a.row ≢ b.row → goes b a ≡ not (goes a b)
  -- of three different rows, what goes before the second goes before the third (`same_row` sets b apart from a and c)
  pub chain : (a b c : Instance) → a.row ≢ c.row → goes a b ≡ true → goes b c ≡ true → goes a c ≡ true
