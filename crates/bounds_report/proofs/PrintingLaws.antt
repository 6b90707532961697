-- The printed numbers, from the ends and the differences.
use Rattle.std.proofs.Common.{◌≡◌, ℕ, pos, negsuc, ◌<◌, List, length, ap, ◌∙◌}
use Rattle.std.proofs.Math.IntN.{◌-ℤ◌}
use Rattle.whole_numbers.specs.Intervals.{Interval, size, interval_sub, interval_mul, sum_intervals}
use Rattle.whole_numbers.proofs.IntervalLaws.{sum_intervals_same}
use Rattle.sys_model.specs.Systems.{Table}
use Rattle.bounds_report.specs.Differences.{difference_of, nth_entry, AreDifferencesOf}
use Rattle.bounds_report.specs.Ends.{AreEnds, ends_of}
use Rattle.bounds_report.specs.Printing.{numbers_of, numbers_at}
use Rattle.bounds_report.specs.Residuals.{row_sum, residual_size, numbers_from, AreRowsPrinted}
use Rattle.bounds_report.specs.Rows.{RowLists, power_at, apriori_at, vector_at, radius_at, deviation_at}
use Rattle.bounds_report.specs.declared.ends.Ends.{Ends}
use Rattle.bounds_report.specs.declared.numbers.Printed.{Printed}

-- a list with the differences of the rows makes of a row of a table what they make of it
sum_is : (n : ℕ) (t : Table) (r : RowLists) (zs : List Interval) (i : ℕ) → AreDifferencesOf n r zs → row_sum n t zs i ≡ sum_intervals n (λ j. interval_mul (t.entry i j) (difference_of r j))
sum_is n t r zs i done =
    sum_intervals_same n (λ j. interval_mul (t.entry i j) (nth_entry zs j)) (λ j. interval_mul (t.entry i j) (difference_of r j)) (λ j l. ap (λ z. interval_mul (t.entry i j) z) (done.rows j l))

-- the ends of row i with a residual
abbrev with_residual : RowLists → ℕ → Ends → ℕ → Printed
with_residual r i e residual = record {
  estimate = e.estimate;
  lower = e.lower;
  upper = e.upper;
  residual = residual;
  place = power_at r i -ℤ pos 30;
  deviation = deviation_at r i;
  deviation_place = negsuc 4 -ℤ power_at r i;
}

numbers_are : (n : ℕ) (t : Table) (r : RowLists) (es : List Ends) (zs : List Interval) (i : ℕ) → i < n → AreEnds n r es → AreDifferencesOf n r zs
    → numbers_from n t r es zs i ≡ numbers_of n t r.pilot (power_at r) (apriori_at r) (vector_at r) (radius_at r) i
numbers_are n t r es zs i h ends done =
    ap (λ e. with_residual r i e (residual_size n t zs i)) (ends.rows i h)
    ∙ ap (λ s. with_residual r i (ends_of r i) (size (interval_sub (t.right i) s))) (sum_is n t r zs i done)

pub all_printed : (n : ℕ) (t : Table) (r : RowLists) (es : List Ends) (zs : List Interval) (ps : List Printed) → AreEnds n r es → AreDifferencesOf n r zs → length ps ≡ n
    → ((i : ℕ) → i < n → numbers_at ps i ≡ numbers_from n t r es zs i) → AreRowsPrinted n t r ps
all_printed n t r es zs ps ends done len rows = record {
  printable = ends.printable;
  differences = done.fit;
  len = len;
  rows = λ i h. rows i h ∙ numbers_are n t r es zs i h ends done;
}
