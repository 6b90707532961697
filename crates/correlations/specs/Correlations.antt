-- The covariances of correlations in intervals by name, or the first cause for which there are none. How the products are taken within
-- 128 bits is this program's own.
use Rattle.std.specs.Prelude.{◌≡◌, ◌≤◌, ◌<◌, ◌+◌, ◌^◌, ℕ, ℤ, pos, negsuc, ◌+ℤ◌, ◌-ℤ◌, ◌*ℤ◌, List, length, Some, None, Result, Ok, Err, slice_get}
use Rattle.stated_order.specs.First.{HoldsBelow}
use Rattle.stated_order.specs.Steps.{IsOne}
use Rattle.whole_numbers.specs.Intervals.{Interval, interval_scale, size}
use Rattle.whole_numbers.specs.Scaling.{interval_scale10}
use Rattle.decimal_e.specs.Decimals.{Decimal}
use Rattle.decimal_e.specs.Fractions.{IsAtMost}
use Rattle.decimal_e.specs.Scales.{decimal_interval}
use Rattle.sym_blocks.specs.Tables.{SymTable, entry_at, before}
use Rattle.param_ids.specs.Plain.{PlainId}
use Rattle.param_ids.specs.Tables.{ScaleMap}
use Rattle.snx_rows.specs.declared.rows.Row.{Row}
use Rattle.snx_matrices.specs.declared.elements.Cell.{Cell}
use Rattle.snx_matrices.specs.declared.elements.Content.TheVariants.{Cova}
use Rattle.neq_stack.specs.Systems.{name_at}
use Rattle.named_tables.specs.Weighted.{element_power}
use Rattle.named_tables.specs.declared.faults.RecoverFault.{RecoverFault}
use Rattle.named_tables.specs.declared.faults.RecoverFault.TheVariants.{NoWeight, Range}
use Rattle.correlations.specs.Exact.{deviation_of, correlation_of}

-- ---- one covariance
-- the decimal is m * 10^k, with 18 digits in m
pub record HasDigits (s : Decimal) (m : ℕ) (k : ℤ) : Type 0 where
  pub least : 10 ^ 17 ≤ m
  pub most : m < 10 ^ 18
  pub more : ℕ
  pub digits : pos m ≡ s.mant *ℤ pos (10 ^ more)
  pub power : k ≡ s.exp -ℤ pos more

-- the interval of a correlation r times two standard deviations s and t, times 10^power: that of r times 10^18, times the digits of s over
-- 10^18, times the digits of t and all powers of ten, each rounded outward
pub record IsProductOf (r s t : Decimal) (power : ℤ) (w : Interval) : Type 0 where
  pub m : ℕ
  pub k : ℤ
  pub n : ℕ
  pub l : ℤ
  pub one : HasDigits s m k
  pub other : HasDigits t n l
  pub is : w ≡ interval_scale10 (interval_scale (pos n) (interval_scale10 (interval_scale (pos m) (decimal_interval r (pos 18))) (negsuc 17))) (k +ℤ l +ℤ power)

-- the correlation is at most 1 in size, both standard deviations have at most 18 digits (as all numbers of a text have), and the interval
-- of the product is at most 10^34 in size
pub record ProductFits (r s t : Decimal) (power : ℤ) : Type 0 where
  pub correlation : IsAtMost 1 r
  pub w : Interval
  pub product : IsProductOf r s t power w
  pub modest : size w ≤ 10 ^ 34

-- ---- the table
module _ (rows : List Row) (cells : List Cell) (scales : ScaleMap) (names : List PlainId) where
  -- the name at i has a standard deviation
  pub record HasDeviation (i : ℕ) : Type 0 where
    pub s : Decimal
    pub is : deviation_of rows cells names (name_at names i) ≡ Some s

  -- the covariance of the names at i and j, the later first, fits
  abbrev pub CovarianceFits : ℕ → ℕ → Type 0
  CovarianceFits i j = (s t : Decimal) → deviation_of rows cells names (name_at names i) ≡ Some s → deviation_of rows cells names (name_at names j) ≡ Some t
      → ProductFits (correlation_of rows cells (name_at names i) (name_at names j)) s t (element_power Cova scales (name_at names i) (name_at names j))

  -- row i has its standard deviation, and all its covariances up to the diagonal fit
  pub record RowFits (i : ℕ) : Type 0 where
    pub deviation : HasDeviation i
    pub covariances : HoldsBelow (i + 1) (CovarianceFits i)

  -- the table of the covariances
  pub record IsCovarianceTable (table : SymTable) : Type 0 where
    pub size : table.size ≡ length names
    pub lower : length table.entries ≡ before table.size
    pub entries : (i j : ℕ) (s t : Decimal) → i < length names → j ≤ i → deviation_of rows cells names (name_at names i) ≡ Some s → deviation_of rows cells names (name_at names j) ≡ Some t
        → IsProductOf (correlation_of rows cells (name_at names i) (name_at names j)) s t (element_power Cova scales (name_at names i) (name_at names j)) (entry_at table i j)

  -- the first row without a standard deviation, after rows that fit
  pub record IsUnweighted (id : PlainId) : Type 0 where
    pub i : ℕ
    pub id_is : slice_get names i ≡ Some id
    pub rows_fit : HoldsBelow i RowFits
    pub none : deviation_of rows cells names id ≡ None

  -- the first covariance that does not fit, after rows that do
  pub record IsUnfitCovariance (row col : PlainId) : Type 0 where
    pub i : ℕ
    pub j : ℕ
    pub row_is : slice_get names i ≡ Some row
    pub col_is : slice_get names j ≡ Some col
    pub lower : j ≤ i
    pub rows_fit : HoldsBelow i RowFits
    pub deviation : HasDeviation i
    pub left : HoldsBelow j (CovarianceFits i)
    pub fails : ¬ (CovarianceFits i j)

  -- the table where all rows fit, or else the first cause, row by row: a row without a standard deviation, or a covariance that does not fit
  abbrev pub AreCovariances : Result SymTable RecoverFault → Type 0
  AreCovariances (Ok table) = IsCovarianceTable table × HoldsBelow (length names) RowFits
  AreCovariances (Err (NoWeight id)) = IsUnweighted id
  AreCovariances (Err (Range row col)) = IsUnfitCovariance row col
  AreCovariances (Err other) = ⊥

-- there is one table, or one first cause, and never both
abbrev pub OneCovariances : Type 0
OneCovariances = (rows : List Row) (cells : List Cell) (scales : ScaleMap) (names : List PlainId) → IsOne (AreCovariances rows cells scales names)
