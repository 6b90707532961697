-- For private functions alone: the parts of a shift.
use Rattle.std.specs.Prelude.{◌≡◌, ◌≤◌, ◌<◌, ◌^◌, ℕ, List, length, slice_index_or, Ok, Err}
use Rattle.stated_order.specs.First.{HoldsBelow, IsFirstFailure}
use Rattle.stated_order.specs.Steps.{Then}
use Rattle.whole_numbers.specs.Intervals.{Interval, size}
use Rattle.sym_blocks.specs.Tables.{zero_interval}
use Rattle.decimal_e.specs.Decimals.{Decimal}
use Rattle.neq_stack.specs.Neqs.{PlainNeq}
use Rattle.difference_products.specs.Products.{Place, IsProduct}
use Rattle.apriori_shift.specs.Shifts.{AreDifferences, factors_in, less_by, RightFits, IsLessBy}

-- ---- right sides
-- a right side less its product is at most 10^35 in size
abbrev pub Fits : List Interval → List Interval → ℕ → Type 0
Fits right products i = size (slice_index_or (less_by right products) i zero_interval) ≤ 10 ^ 35

-- all do, or this is the first row that does not, named twice
abbrev pub NoneIsPast : List Interval → List Interval → Type 0
NoneIsPast right products = HoldsBelow (length right) (Fits right products)

abbrev pub IsFirstPast : List Interval → List Interval → Place → Type 0
IsFirstPast right products p = (p.row ≡ p.col) × IsFirstFailure (length right) (Fits right products) p.row

-- no product passes 10^34 in size
abbrev pub AreModest : List Interval → Type 0
AreModest products = (i : ℕ) → i < length products → size (slice_index_or products i zero_interval) ≤ 10 ^ 34

-- the right side of normal equations at these values
pub record IsMovedRight (values : List Decimal) (neq : PlainNeq) (right : List Interval) : Type 0 where
  pub differences : List Interval
  pub products : List Interval
  pub differ : AreDifferences values neq.apriori differences
  pub multiplied : IsProduct (factors_in neq differences) (Ok products)
  pub fit : HoldsBelow (length neq.names) (RightFits neq products)
  pub is : right ≡ less_by neq.right products
  pub many : length products ≡ length neq.names
  pub modest : AreModest products

-- the place of the first interval past its bound
pub record IsPast (values : List Decimal) (neq : PlainNeq) (p : Place) : Type 0 where
  pub differences : List Interval
  pub differ : AreDifferences values neq.apriori differences
  pub past : Then (IsProduct (factors_in neq differences)) (IsLessBy values neq) (Err p)
