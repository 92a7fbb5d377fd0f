-- What contracts see of a receiver in memory.
use Rattle.std.specs.Prelude.{ℕ, ◌+◌, length}
use Rattle.output_put.specs.Receipt.{Receipt}

-- Its receipt, and the number of the put that it refuses; 0 if there is none. (own)
pub record Kept : Type 0 where
  pub receipt : Receipt
  pub refuse : ℕ

-- The number of the next put, counted from 1: those before it were taken or refused. (own)
abbrev pub number_of : Receipt → ℕ
number_of r = length r.handed + r.failures + 1
