-- The columns of a table, one beside another. Assumes nothing.
use Rattle.std.specs.Prelude.{◌≡◌, ℕ, ◌<◌, List, length, slice_index, slice_index_or}
use Rattle.orders.specs.declared.instance.Instance.{Instance}

-- what the code reads past the end of a list of instances
abbrev pub no_instance : Instance
no_instance = record { row = 0; duration = 0; period = 0; deadline = 0; priority = 0; left = 0 }

-- each column has 32 places, and the periods and deadlines are those that a policy sees
pub record InStep (kinds : List Instance) (periods deadlines waits lefts : List ℕ) : Type 0 where
  pub kinds_long : length kinds ≡ 32
  pub periods_long : length periods ≡ 32
  pub deadlines_long : length deadlines ≡ 32
  pub waits_long : length waits ≡ 32
  pub lefts_long : length lefts ≡ 32
  pub periods_are : (k : ℕ) → k < 32 → slice_index periods k ≡ (slice_index_or kinds k no_instance).period
  pub deadlines_are : (k : ℕ) → k < 32 → slice_index deadlines k ≡ (slice_index_or kinds k no_instance).deadline
