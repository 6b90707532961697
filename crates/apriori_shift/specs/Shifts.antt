-- Normal equations at other a priori values: b becomes b - N (x1 - x0) (Brockmann 1997, section 2.2), in intervals.
use Rattle.std.specs.Prelude.{◌≡◌, ◌≢◌, ◌≤◌, ◌⊎◌, ◌^◌, ℕ, pos, List, [], ◌∷◌, length, slice_index_or, ⊤, Result, Ok, Err}
use Rattle.stated_order.specs.First.{HoldsBelow, IsFirstFailure}
use Rattle.stated_order.specs.Steps.{IsOne, Then}
use Rattle.whole_numbers.specs.Intervals.{Interval, interval_sub, size}
use Rattle.sym_blocks.specs.Tables.{zero_interval}
use Rattle.decimal_e.specs.Decimals.{Decimal}
use Rattle.decimal_e.specs.Scales.{decimal_interval}
use Rattle.neq_stack.specs.Neqs.{PlainNeq}
use Rattle.difference_products.specs.Products.{Factors, Place, IsProduct}

-- ---- differences
-- the difference of two decimals times 10^20: zero where they are equal, else the difference of their intervals
abbrev pub IsDifference : Decimal → Decimal → Interval → Type 0
IsDifference to from w = ((to ≡ from) × (w ≡ zero_interval)) ⊎ ((to ≢ from) × (w ≡ interval_sub (decimal_interval to (pos 20)) (decimal_interval from (pos 20))))

-- the differences of two lists, member by member
abbrev pub AreDifferences : List Decimal → List Decimal → List Interval → Type 0
AreDifferences [] [] [] = ⊤
AreDifferences (to ∷ values) (from ∷ olds) (w ∷ ws) = IsDifference to from w × AreDifferences values olds ws
AreDifferences values olds ws = ⊥

-- what is multiplied: the table with the differences
abbrev pub factors_in : PlainNeq → List Interval → Factors
factors_in neq differences = record { table = neq.table; differences = differences; scales = neq.scales }

-- ---- right sides
-- the differences of two lists of intervals, member by member
abbrev pub less_by : List Interval → List Interval → List Interval
less_by (w ∷ ws) (v ∷ vs) = interval_sub w v ∷ less_by ws vs
less_by ws vs = []

-- the right side of row i less its product is at most 10^35 in size
abbrev pub RightFits : PlainNeq → List Interval → ℕ → Type 0
RightFits neq products i = size (slice_index_or (less_by neq.right products) i zero_interval) ≤ 10 ^ 35

-- the normal equations with these a priori values, and with their right side less the products
abbrev pub moved_to : List Decimal → PlainNeq → List Interval → PlainNeq
moved_to values neq products = record {
  names = neq.names;
  table = neq.table;
  right = less_by neq.right products;
  apriori = values;
  units = neq.units;
  scales = neq.scales;
}

-- these where all right sides fit, or else the first row that does not, named twice
abbrev pub IsLessBy : List Decimal → PlainNeq → List Interval → Result PlainNeq Place → Type 0
IsLessBy values neq products (Ok after) = HoldsBelow (length neq.names) (RightFits neq products) × (after ≡ moved_to values neq products)
IsLessBy values neq products (Err p) = (p.row ≡ p.col) × IsFirstFailure (length neq.names) (RightFits neq products) p.row

-- ---- the shift
-- The normal equations at these a priori values, or the place of the first interval that does not fit. At the values that they have
-- they stay as they are, and nothing is tested.
abbrev pub IsShift : List Decimal → PlainNeq → Result PlainNeq Place → Type 0
IsShift values neq result =
    ((values ≡ neq.apriori) × (result ≡ Ok neq))
    ⊎ ((values ≢ neq.apriori) × ((differences : List Interval) × AreDifferences values neq.apriori differences
    × Then (IsProduct (factors_in neq differences)) (IsLessBy values neq) result))

-- there is one shift, or one first place, and never both
abbrev pub OneShift : Type 0
OneShift = (values : List Decimal) (neq : PlainNeq) → IsOne (IsShift values neq)
