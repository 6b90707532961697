-- Rows and elements by the places of names, and intervals in memory that may be too great yet. These serve private functions, and crates
-- that make more of such intervals.
use Rattle.std.specs.Prelude.{◌≡◌, ◌≤◌, ◌<◌, ◌^◌, ℕ, ℤ, pos, ◌+ℤ◌, ◌-ℤ◌, List, length, map, Contains, Option, None, Some, slice_get, slice_index, slice_index_or}
use Rattle.std.specs.Net.Reader.{map_or}
use Rattle.whole_numbers.specs.Intervals.{Interval, size}
use Rattle.whole_numbers.specs.Lists.{at}
use Rattle.decimal_e.specs.Decimals.{Decimal, product}
use Rattle.decimal_e.specs.Scales.{decimal_interval}
use Rattle.sym_blocks.specs.Tables.{SymTable, entry_at, before, zero_interval}
use Rattle.param_ids.specs.Plain.{PlainId}
use Rattle.param_ids.specs.Tables.{ScaleMap}
use Rattle.snx_rows.specs.Named.{zero_decimal}
use Rattle.snx_rows.specs.declared.rows.Row.{Row}
use Rattle.snx_matrices.specs.Named.{given_at}
use Rattle.snx_matrices.specs.declared.elements.Cell.{Cell}
use Rattle.snx_matrices.specs.declared.elements.Content.{Content}
use Rattle.snx_matrices.specs.declared.elements.Content.TheVariants.{Cova, Corr, Info}
use Rattle.named_tables.specs.Weighted.{weighted_element, weighted_value, element_power, right_power, Fits}

-- ---- intervals in memory
-- an interval is at most 10^34 in size
abbrev pub IsModest : Interval → Type 0
IsModest v = size v ≤ 10 ^ 34

-- an interval in memory is another where one of the two is modest
pub record IsKept (given shown : Interval) : Type 0 where
  pub here : IsModest given → shown ≡ given
  pub back : IsModest shown → shown ≡ given

-- an interval in memory stands for a number times 10^k: it is that of the number where the number fits, and where it is modest the
-- number fits
pub record StandsFor (number : Decimal) (k : ℤ) (shown : Interval) : Type 0 where
  pub here : Fits number k → shown ≡ decimal_interval number k
  pub fits : IsModest shown → Fits number k
  pub back : IsModest shown → shown ≡ decimal_interval number k

-- ---- places
-- the places of the rows' names among the names; that of a row whose name is not among them may be any
pub record AreRanks (names : List PlainId) (rows : List Row) (ranks : List ℕ) : Type 0 where
  pub len : length ranks ≡ length rows
  pub each : (k : ℕ) (row : Row) → slice_get rows k ≡ Some row → Contains names row.id → slice_get names (slice_index ranks k) ≡ Some row.id

-- both places of the element's names are below n
pub record IsRanked (n : ℕ) (ranks : List ℕ) (cell : Cell) : Type 0 where
  pub row : cell.row < length ranks
  pub col : cell.col < length ranks
  pub row_rank : slice_index ranks cell.row < n
  pub col_rank : slice_index ranks cell.col < n

-- the element, at the places of its names
abbrev pub ranked : List ℕ → Cell → Cell
ranked ranks cell = record { row = slice_index ranks cell.row; col = slice_index ranks cell.col; value = cell.value }

-- the element for the names at i and j, times the weight
abbrev pub ranked_number : Decimal → List Cell → List ℕ → ℕ → ℕ → Decimal
ranked_number weight cells ranks i j = product weight (given_at (map (ranked ranks) cells) i j)

-- the value of the row for the name at i, and zero where there is none, times the weight
abbrev pub right_number : Decimal → List (Option Row) → ℕ → Decimal
right_number weight rows i = product weight (map_or (slice_index_or rows i None) zero_decimal (λ row. row.value))

-- the powers of ten, with these scale exponents
abbrev pub pair_power : Content → List ℤ → ℕ → ℕ → ℤ
pair_power Info exponents i j = pos 18 -ℤ at exponents i -ℤ at exponents j
pair_power Cova exponents i j = pos 24 +ℤ at exponents i +ℤ at exponents j
pair_power Corr exponents i j = pos 18

abbrev pub row_power : List ℤ → ℕ → ℤ
row_power exponents i = pos 18 -ℤ at exponents i

-- the intervals of a table of n rows stand for the elements
abbrev pub ShowsEntries : Content → Decimal → List Cell → List ℕ → List ℤ → SymTable → Type 0
ShowsEntries content weight cells ranks exponents table = (i j : ℕ) → i < length exponents → j < length exponents → StandsFor (ranked_number weight cells ranks i j) (pair_power content exponents i j) (entry_at table i j)

-- ---- by name
-- the table of the elements for these names, in intervals that stand for them
pub record IsShownTable (content : Content) (rows : List Row) (cells : List Cell) (weight : Decimal) (scales : ScaleMap) (names : List PlainId) (table : SymTable) : Type 0 where
  pub size : table.size ≡ length names
  pub lower : length table.entries ≡ before table.size
  pub entries : (i j : ℕ) (one other : PlainId) → slice_get names i ≡ Some one → slice_get names j ≡ Some other
      → StandsFor (weighted_element rows cells weight one other) (element_power content scales one other) (entry_at table i j)

-- the right side for these names, in intervals that stand for its values
pub record IsShownColumn (rows : List Row) (weight : Decimal) (scales : ScaleMap) (names : List PlainId) (right : List Interval) : Type 0 where
  pub len : length right ≡ length names
  pub values : (i : ℕ) (id : PlainId) → slice_get names i ≡ Some id
      → StandsFor (weighted_value rows weight id) (right_power scales id) (slice_index_or right i zero_interval)
