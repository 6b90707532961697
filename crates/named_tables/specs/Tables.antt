-- Matrices and right sides of a text as intervals by name, with the weight of their file; or the first number that does not fit.
use Rattle.std.specs.Prelude.{◌≡◌, ℕ, List, length, map, Some, Result, Ok, Err, Contains, slice_get}
use Rattle.stated_order.specs.First.{HoldsBelow, HoldsLower, IsFirstFailure, IsFirstLowerFailure}
use Rattle.stated_order.specs.Steps.{IsOne}
use Rattle.whole_numbers.specs.Intervals.{Interval}
use Rattle.decimal_e.specs.Decimals.{Decimal}
use Rattle.decimal_e.specs.Scales.{decimal_interval}
use Rattle.sym_blocks.specs.Tables.{SymTable, entry_at, before}
use Rattle.param_ids.specs.Plain.{PlainId}
use Rattle.param_ids.specs.Tables.{ScaleMap}
use Rattle.snx_rows.specs.declared.rows.Row.{Row}
use Rattle.snx_matrices.specs.declared.elements.Cell.{Cell}
use Rattle.snx_matrices.specs.declared.elements.Content.{Content}
use Rattle.snx_matrices.specs.declared.elements.Content.TheVariants.{Info}
use Rattle.sys_model.specs.Scaling.{HoldsTimes}
use Rattle.neq_stack.specs.ByName.{entry_at_places, place_in}
use Rattle.neq_stack.specs.Systems.{NamedSystem, name_at}
use Rattle.named_tables.specs.Weighted.{weighted_element, weighted_value, entry_power, element_power, right_power, Fits}
use Rattle.named_tables.specs.declared.faults.RecoverFault.{RecoverFault}
use Rattle.named_tables.specs.declared.faults.RecoverFault.TheVariants.{Range}

-- ---- the first that does not fit
-- row and col are the names at the first place of a table over these names at which this fails, row by row up to the diagonal
pub record IsUnfitEntry (names : List PlainId) (P : ℕ → ℕ → Type 0) (row col : PlainId) : Type 0 where
  pub i : ℕ
  pub j : ℕ
  pub first : IsFirstLowerFailure (length names) P i j
  pub row_is : slice_get names i ≡ Some row
  pub col_is : slice_get names j ≡ Some col

-- row and col are the name at the first place of a list over these names at which this fails
pub record IsUnfitRow (names : List PlainId) (P : ℕ → Type 0) (row col : PlainId) : Type 0 where
  pub i : ℕ
  pub first : IsFirstFailure (length names) P i
  pub row_is : slice_get names i ≡ Some row
  pub twice : col ≡ row

-- ---- a matrix
-- the element for the names at i and j fits
abbrev pub ElementFits : Content → List Row → List Cell → Decimal → ScaleMap → List PlainId → ℕ → ℕ → Type 0
ElementFits content rows cells weight scales names i j = Fits (weighted_element rows cells weight (name_at names i) (name_at names j)) (element_power content scales (name_at names i) (name_at names j))

-- the table of the elements for these names: the interval of each, times the weight and its power of ten
pub record IsTableOfContent (content : Content) (rows : List Row) (cells : List Cell) (weight : Decimal) (scales : ScaleMap) (names : List PlainId) (table : SymTable) : Type 0 where
  pub size : table.size ≡ length names
  pub lower : length table.entries ≡ before table.size
  pub entries : (i j : ℕ) (one other : PlainId) → slice_get names i ≡ Some one → slice_get names j ≡ Some other
      → entry_at table i j ≡ decimal_interval (weighted_element rows cells weight one other) (element_power content scales one other)

-- the table where all elements fit, or else the names of the first that does not
abbrev pub IsTableBy : Content → List Row → List Cell → Decimal → ScaleMap → List PlainId → Result SymTable RecoverFault → Type 0
IsTableBy content rows cells weight scales names (Ok table) = IsTableOfContent content rows cells weight scales names table × HoldsLower (length names) (ElementFits content rows cells weight scales names)
IsTableBy content rows cells weight scales names (Err (Range row col)) = IsUnfitEntry names (ElementFits content rows cells weight scales names) row col
IsTableBy content rows cells weight scales names (Err other) = ⊥

-- the same of an information matrix
abbrev pub EntryFits : List Row → List Cell → Decimal → ScaleMap → List PlainId → ℕ → ℕ → Type 0
EntryFits = ElementFits Info

abbrev pub IsTableOf : List Row → List Cell → Decimal → ScaleMap → List PlainId → SymTable → Type 0
IsTableOf = IsTableOfContent Info

abbrev pub IsTable : List Row → List Cell → Decimal → ScaleMap → List PlainId → Result SymTable RecoverFault → Type 0
IsTable = IsTableBy Info

-- ---- a right side
-- the value for the name at i fits
abbrev pub ValueFits : List Row → Decimal → ScaleMap → List PlainId → ℕ → Type 0
ValueFits rows weight scales names i = Fits (weighted_value rows weight (name_at names i)) (right_power scales (name_at names i))

-- the interval of the value for a name, times the weight and its power of ten
abbrev pub value_interval : List Row → Decimal → ScaleMap → PlainId → Interval
value_interval rows weight scales id = decimal_interval (weighted_value rows weight id) (right_power scales id)

-- the intervals of the values for these names where all fit, or else the name of the first that does not, twice
abbrev pub IsColumn : List Row → Decimal → ScaleMap → List PlainId → Result (List Interval) RecoverFault → Type 0
IsColumn rows weight scales names (Ok right) = (right ≡ map (value_interval rows weight scales) names) × HoldsBelow (length names) (ValueFits rows weight scales names)
IsColumn rows weight scales names (Err (Range row col)) = IsUnfitRow names (ValueFits rows weight scales names) row col
IsColumn rows weight scales names (Err other) = ⊥

-- ---- systems in tables
-- each element of E lies in the interval of its names, times 10^(18 - t - t'), where t are their scale exponents; names that the table lacks
-- have the interval zero
abbrev pub LiesInTable : ScaleMap → List PlainId → SymTable → NamedSystem → Type 0
LiesInTable scales names table E = (one other : PlainId) → HoldsTimes (entry_at_places table (place_in names one) (place_in names other)) (E.a one other) E.q (entry_power scales one other)

-- ---- what is promised of them
-- there is one table and one list of intervals, or one first number that does not fit, and never both
abbrev pub OneTable : Type 0
OneTable = (content : Content) (rows : List Row) (cells : List Cell) (weight : Decimal) (scales : ScaleMap) (names : List PlainId) → IsOne (IsTableBy content rows cells weight scales names)

abbrev pub OneColumn : Type 0
OneColumn = (rows : List Row) (weight : Decimal) (scales : ScaleMap) (names : List PlainId) → IsOne (IsColumn rows weight scales names)

-- the rows that an element joins have these names
pub record HasNames (names : List PlainId) (rows : List Row) (cell : Cell) : Type 0 where
  pub row : (row : Row) → slice_get rows cell.row ≡ Some row → Contains names row.id
  pub col : (row : Row) → slice_get rows cell.col ≡ Some row → Contains names row.id
