-- For private functions alone: the sums that the defects of a pilot are made of.
use Rattle.std.specs.Prelude.{◌≡◌, ◌≤◌, ◌+◌, ◌^◌, ℕ, ℤ, pos, negsuc, ◌*ℤ◌, List, length, min}
use Rattle.whole_numbers.specs.Sum.{unit}
use Rattle.whole_numbers.specs.Intervals.{Interval, point_interval, interval_sub, interval_scale, sum_intervals, size}
use Rattle.sys_model.specs.Systems.{Table}
use Rattle.sym_blocks.specs.Tables.{SymTable, entry_at, zero_interval}
use Rattle.whole_numbers.specs.Lists.{AllAtMost}

-- the product of r with up, or with down where r is below 0
abbrev pub end_product : ℤ → ℤ → ℤ → ℤ
end_product (pos k) up down = pos k *ℤ up
end_product (negsuc k) up down = negsuc k *ℤ down

-- the sum of the first n products of the numbers r and the intervals f
abbrev pub products_to : ℕ → (ℕ → ℤ) → (ℕ → Interval) → Interval
products_to n r f = sum_intervals n (λ k. interval_scale (r k) (f k))

-- the three rows have one length, and are in their bounds
pub record AreRows (r low high : List ℤ) : Type 0 where
  pub few : length r ≤ 1000
  pub lows : length low ≡ length r
  pub highs : length high ≡ length r
  pub numbers : AllAtMost (2 ^ 50) r
  pub low_ends : AllAtMost (2 ^ 61) low
  pub high_ends : AllAtMost (2 ^ 61) high

-- the size of what w leaves of the diagonal interval at (i, j), and 2^(g + 60) where it is more
abbrev pub clipped_left : ℕ → ℕ → ℕ → Interval → ℕ
clipped_left g i j w = min (size (interval_sub (point_interval (unit i (pos (2 ^ (g + 60))) j)) w)) (2 ^ (g + 60))

-- the table whose interval in row k and column j is that of row j and column k of a
abbrev pub turned_table : SymTable → Table
turned_table a = record { entry = λ k j. entry_at a j k; right = λ i. zero_interval }
