-- The printed bounds and the estimates of the rows, before the residuals are known.
use Rattle.std.specs.Prelude.{◌≡◌, ◌≤◌, ◌<◌, ◌^◌, ℕ, pos, unsigned_abs, ⊤, List, length, slice_index_or}
use Rattle.bounds_report.specs.Printing.{lower_of, upper_of, estimate_of, IsPrintable}
use Rattle.bounds_report.specs.Refusals.{IsFirstUnprintable}
use Rattle.bounds_report.specs.Rows.{RowLists, row_count, power_at, apriori_at, vector_at, radius_at}
use Rattle.bounds_report.specs.declared.ends.Ends.{Ends}
use Rattle.bounds_report.specs.declared.PrintError.{PrintError}
use Rattle.bounds_report.specs.declared.PrintError.TheVariants.{Range, Memory}

-- the bounds are at most 10^37 in size, the estimate is at most 10^33
pub record AreLimited (e : Ends) : Type 0 where
  pub lower : unsigned_abs e.lower ≤ 10 ^ 37
  pub upper : unsigned_abs e.upper ≤ 10 ^ 37
  pub estimate : unsigned_abs e.estimate ≤ 10 ^ 33

-- the bounds and the estimate of row i
abbrev pub ends_of : RowLists → ℕ → Ends
ends_of r i = record {
  lower = lower_of (apriori_at r i) (power_at r i) (vector_at r i) (radius_at r i);
  upper = upper_of (apriori_at r i) (power_at r i) (vector_at r i) (radius_at r i);
  estimate = estimate_of (apriori_at r i) (power_at r i) (vector_at r i);
}

-- they can be printed
abbrev pub IsRowPrintable : RowLists → ℕ → Type 0
IsRowPrintable r i = IsPrintable (apriori_at r i) (power_at r i) (vector_at r i) (radius_at r i)

-- row i is the first of which they can't
abbrev pub IsFirstRefused : RowLists → ℕ → Type 0
IsFirstRefused r i = IsFirstUnprintable (row_count r) (power_at r) (apriori_at r) (vector_at r) (radius_at r) i

-- the ends of a list
abbrev pub ends_at : List Ends → ℕ → Ends
ends_at es i = slice_index_or es i (record { lower = pos 0; upper = pos 0; estimate = pos 0 })

-- the list has the ends of the first n rows, and all of them can be printed
pub record AreEnds (n : ℕ) (r : RowLists) (es : List Ends) : Type 0 where
  pub len : length es ≡ n
  pub printable : (i : ℕ) → i < n → IsRowPrintable r i
  pub rows : (i : ℕ) → i < n → ends_at es i ≡ ends_of r i

-- what a refusal says: P of its row, and nothing where memory is wanting
abbrev pub IfRange : (ℕ → Type 0) → PrintError → Type 0
IfRange P (Range row) = P row
IfRange P Memory = ⊤
