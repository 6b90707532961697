-- What a list of differences leaves of the right side of a table, and the printed numbers with it.
use Rattle.std.specs.Prelude.{◌≡◌, ◌≤◌, ◌^◌, ℕ, pos, negsuc, ◌-ℤ◌, List, length}
use Rattle.whole_numbers.specs.Sum.{total_to}
use Rattle.whole_numbers.specs.Intervals.{Interval, size, interval_sub, interval_mul, sum_intervals}
use Rattle.sys_model.specs.Systems.{Table}
use Rattle.bounds_report.specs.Differences.{nth_entry}
use Rattle.bounds_report.specs.Ends.{ends_at}
use Rattle.bounds_report.specs.Printing.{ArePrinted}
use Rattle.bounds_report.specs.Refusals.{IsPrintRefused}
use Rattle.bounds_report.specs.Rows.{RowLists, power_at, apriori_at, vector_at, radius_at, deviation_at}
use Rattle.bounds_report.specs.declared.ends.Ends.{Ends}
use Rattle.bounds_report.specs.declared.numbers.Printed.{Printed}
use Rattle.bounds_report.specs.declared.PrintError.{PrintError}

-- a list of n intervals, with sizes of at most 2^65 in sum
pub record AreSmallIntervals (n : ℕ) (zs : List Interval) : Type 0 where
  pub len : length zs ≡ n
  pub sum : total_to n (λ j. size (nth_entry zs j)) ≤ 2 ^ 65

-- what they make of row i of a table
abbrev pub row_sum : ℕ → Table → List Interval → ℕ → Interval
row_sum n t zs i = sum_intervals n (λ j. interval_mul (t.entry i j) (nth_entry zs j))

-- the greatest size of what they leave of its right side
abbrev pub residual_size : ℕ → Table → List Interval → ℕ → ℕ
residual_size n t zs i = size (interval_sub (t.right i) (row_sum n t zs i))

-- the ends of a list with their residual and deviation
abbrev pub numbers_from : ℕ → Table → RowLists → List Ends → List Interval → ℕ → Printed
numbers_from n t r es zs i = record {
  estimate = (ends_at es i).estimate;
  lower = (ends_at es i).lower;
  upper = (ends_at es i).upper;
  residual = residual_size n t zs i;
  place = power_at r i -ℤ pos 30;
  deviation = deviation_at r i;
  deviation_place = negsuc 4 -ℤ power_at r i;
}

-- the printed numbers of the rows, by the table with its n rows
abbrev pub AreRowsPrinted : ℕ → Table → RowLists → List Printed → Type 0
AreRowsPrinted n t r ps = ArePrinted n t r.pilot (power_at r) (apriori_at r) (vector_at r) (radius_at r) ps

abbrev pub AreRowsRefused : ℕ → RowLists → PrintError → Type 0
AreRowsRefused n r refusal = IsPrintRefused n (power_at r) (apriori_at r) (vector_at r) (radius_at r) refusal
