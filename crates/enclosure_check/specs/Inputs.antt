-- The tables and right sides that a certificate is made for.
use Rattle.std.specs.Prelude.{◌≡◌, ◌≤◌, ◌<◌, ◌^◌, ℕ, List, length, slice_index_or}
use Rattle.whole_numbers.specs.Intervals.{Interval, size}
use Rattle.sym_blocks.specs.Tables.{SymTable, entry_at, zero_interval}

-- a table within the sizes of a working table: at most 1,000 rows, and intervals of at most 2^61 in size
pub record IsWorkingTable (a : SymTable) : Type 0 where
  pub few : a.size ≤ 1000
  pub small : (i j : ℕ) → i < a.size → j < a.size → size (entry_at a i j) ≤ 2 ^ 61

-- a right side for n rows, with intervals of at most 10^37 in size
pub record IsRightSide (n : ℕ) (d : List Interval) : Type 0 where
  pub len : length d ≡ n
  pub small : (i : ℕ) → i < n → size (slice_index_or d i zero_interval) ≤ 10 ^ 37
