-- The working differences of the estimates from the a priori values, row by row.
use Rattle.std.specs.Prelude.{◌≡◌, ◌<◌, ℕ, List, length, slice_index_or}
use Rattle.whole_numbers.specs.Intervals.{Interval}
use Rattle.sym_blocks.specs.Tables.{zero_interval}
use Rattle.bounds_report.specs.Printing.{working_difference, DifferencesFit}
use Rattle.bounds_report.specs.Refusals.{IsFirstFar}
use Rattle.bounds_report.specs.Rows.{RowLists, row_count, power_at, apriori_at, vector_at, radius_at}

-- the difference of row j
abbrev pub difference_of : RowLists → ℕ → Interval
difference_of r j = working_difference (apriori_at r j) (power_at r j) (vector_at r j)

-- the intervals of a list
abbrev pub nth_entry : List Interval → ℕ → Interval
nth_entry zs j = slice_index_or zs j zero_interval

-- the list has the differences of the first n rows, and their sizes add up to at most 2^65
pub record AreDifferencesOf (n : ℕ) (r : RowLists) (zs : List Interval) : Type 0 where
  pub len : length zs ≡ n
  pub fit : DifferencesFit n (power_at r) (apriori_at r) (vector_at r)
  pub rows : (j : ℕ) → j < n → nth_entry zs j ≡ difference_of r j

-- row i is the first with which their sizes pass 2^65 in sum
abbrev pub IsFirstFarRow : RowLists → ℕ → Type 0
IsFirstFarRow r i = IsFirstFar (row_count r) (power_at r) (apriori_at r) (vector_at r) (radius_at r) i
