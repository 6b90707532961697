-- What the pass over a matrix holds. Private functions alone are served by this file.
use Rattle.std.specs.Prelude.{◌≡◌, ◌≤◌, ◌<◌, ◌+◌, ◌*◌, ◌++◌, ◌∷◌, ◌==◌, ◌&&◌, ℕ, List, [], length, Bool, false, Option, None, Result, Ok, Err, All, ⊤}
use Rattle.std.specs.List.{list_any, slice_index_or}
use Rattle.snx_rows.specs.Blocks.{IsIndex}
use Rattle.snx_rows.specs.declared.causes.Cause.{Cause}
use Rattle.snx_rows.specs.declared.causes.Cause.TheVariants as causes
use Rattle.snx_rows.specs.declared.causes.LineFault.{LineFault}
use Rattle.snx_rows.specs.declared.causes.DocError.{DocError}
use Rattle.snx_rows.specs.declared.causes.DocError.TheVariants as errors
use Rattle.snx_rows.specs.declared.rows.Row.{Row}
use Rattle.snx_matrices.specs.Elements.{place_of, IsGivenBefore}
use Rattle.snx_matrices.specs.declared.elements.Called.{Called}
use Rattle.snx_matrices.specs.declared.elements.Cell.{Cell}
use Rattle.snx_matrices.specs.declared.stops.Stop.{Stop}
use Rattle.snx_matrices.specs.declared.stops.Stop.TheVariants as stops

-- the table has the place of each index's row, at that index
pub record ArePlaces (rows : List Row) (table : List (Option ℕ)) : Type 0 where
  pub few : length rows ≤ 1000
  pub indexed : All (λ row. IsIndex row.index) rows
  pub size : length table ≡ 100000
  pub places : (index : ℕ) → index < 100000 → slice_index_or table index None ≡ place_of rows index

-- a row of n that is called has an index of a row, and is one of them
pub record IsCalled (n : ℕ) (row : Called) : Type 0 where
  pub index : row.index ≤ 99999
  pub place : row.place < n

-- the elements of a matrix of `size` rows so far
pub record PlainElements : Type 0 where
  pub size : ℕ
  pub cells : List Cell

-- the element stands in this row and column
abbrev pub is_at : ℕ → ℕ → Cell → Bool
is_at row col cell = cell.row == row && cell.col == col

-- the flag of each row and column, row by row, stands exactly where an element of them was given
pub record AreFlags (size : ℕ) (flags : List Bool) (cells : List Cell) : Type 0 where
  pub few : size ≤ 1000
  pub square : length flags ≡ size * size
  pub marks : (row col : ℕ) → row < size → col < size → slice_index_or flags (row * size + col) false ≡ list_any (is_at row col) cells

-- what a step answers that leaves `after`: what it gives, or its cause; or want of memory, which may come in the place of either
abbrev pub Leaves : {X : Type 0} → X → (Result X Cause → Type 0) → Result ⊤ Stop → Type 0
Leaves after IsResult (Ok done) = IsResult (Ok after)
Leaves after IsResult (Err (stops.Cause cause)) = IsResult (Err cause)
Leaves after IsResult (Err stops.Memory) = Unit {0}

-- the same, where the line's number is known
abbrev pub LeavesLine : {X : Type 0} → X → (Result X LineFault → Type 0) → Result ⊤ DocError → Type 0
LeavesLine after IsResult (Ok done) = IsResult (Ok after)
LeavesLine after IsResult (Err (errors.Line fault)) = IsResult (Err fault)
LeavesLine after IsResult (Err errors.Memory) = Unit {0}

-- the element is put behind those before it, where it is new
abbrev pub IsAdded : List Cell → Cell → Result (List Cell) Cause → Type 0
IsAdded before cell (Ok after) = (after ≡ before ++ (cell ∷ [])) × ¬ (IsGivenBefore before cell)
IsAdded before cell (Err cause) = (cause ≡ causes.Repeated) × IsGivenBefore before cell
