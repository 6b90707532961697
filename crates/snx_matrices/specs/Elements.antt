-- The elements that the lines of a matrix give: SOLUTION/MATRIX_ESTIMATE, SOLUTION/MATRIX_APRIORI and
-- SOLUTION/NORMAL_EQUATION_MATRIX (SINEX 2.02 format description). Rows and columns are called by the indices of a block of rows.
use Rattle.std.specs.Prelude.{◌≡◌, ◌≢◌, ◌<◌, ◌+◌, ◌*◌, ◌++◌, ◌∷◌, ◌==◌, ℕ, pos, nat_le, if◌then◌else◌, List, [], length, Bool, Option, Some, None, Result, Ok, Err, All, slice_get, codes}
use Rattle.std.specs.Ordering.{int_eq}
use Rattle.std.specs.List.{Any, position_from}
use Rattle.std.specs.Option.{ok_or, option_and_then}
use Rattle.std.specs.Str.{bytes_eq}
use Rattle.stated_order.specs.Steps.{IsOne, Then, Renamed, Through}
use Rattle.snx_lines.specs.Lines.{PlainLine, columns, title_word}
use Rattle.decimal_e.specs.Decimals.{Decimal}
use Rattle.snx_rows.specs.Indices.{index_of}
use Rattle.snx_rows.specs.Rows.{IsNumber, fault_at}
use Rattle.snx_rows.specs.declared.causes.Cause.{Cause}
use Rattle.snx_rows.specs.declared.causes.Cause.TheVariants as causes
use Rattle.snx_rows.specs.declared.causes.LineFault.{LineFault}
use Rattle.snx_rows.specs.declared.rows.Row.{Row}
use Rattle.snx_matrices.specs.declared.elements.Triangle.{Triangle}
use Rattle.snx_matrices.specs.declared.elements.Triangle.TheVariants.{Lower, Upper}
use Rattle.snx_matrices.specs.declared.elements.Content.{Content}
use Rattle.snx_matrices.specs.declared.elements.Content.TheVariants.{Cova, Corr, Info}
use Rattle.snx_matrices.specs.declared.elements.Called.{Called}
use Rattle.snx_matrices.specs.declared.elements.Pair.{Pair}
use Rattle.snx_matrices.specs.declared.elements.Cell.{Cell}
use Rattle.snx_matrices.specs.declared.elements.Heading.{Heading}

-- ---- the title
-- the triangle that a word of a title names
abbrev pub triangle_of : List ℕ → Option Triangle
triangle_of text = if bytes_eq text (codes "L") then Some Lower else (if bytes_eq text (codes "U") then Some Upper else None)

-- what the elements of a solution's matrix are, by a word of its title: covariances, correlations, or an information matrix
abbrev pub content_of : List ℕ → Option Content
content_of text =
    if bytes_eq text (codes "COVA") then Some Cova
    else (if bytes_eq text (codes "CORR") then Some Corr
    else (if bytes_eq text (codes "INFO") then Some Info else None))

-- the title has no word k after its name, counted from 0
abbrev pub lacks_word : List ℕ → ℕ → Bool
lacks_word text k = length (title_word text k) == 0

-- the title of a normal equation matrix has one word after its name, the triangle
abbrev pub normal_heading : List ℕ → Option Heading
normal_heading text =
    if lacks_word text 1 then option_and_then (λ triangle. Some (record { triangle = triangle; content = Info })) (triangle_of (title_word text 0)) else None

-- that of a solution's matrix has two, the triangle and the content
abbrev pub solution_heading : List ℕ → Option Heading
solution_heading text =
    if lacks_word text 2
    then option_and_then (λ triangle. option_and_then (λ content. Some (record { triangle = triangle; content = content })) (content_of (title_word text 1))) (triangle_of (title_word text 0))
    else None

-- ---- a line
-- the place of the row with this index, counted from 0
abbrev pub place_of : List Row → ℕ → Option ℕ
place_of rows index = position_from (λ (row : Row). row.index == index) 0 rows

-- the row of this index, and the row whose index a text writes
abbrev pub called : List Row → ℕ → Option Called
called rows index = option_and_then (λ place. Some (record { index = index; place = place })) (place_of rows index)

abbrev pub called_by : List Row → List ℕ → Option Called
called_by rows text = option_and_then (called rows) (index_of text)

-- the two rows that a line calls: the row of its elements in columns 2 to 6, and the column of its first value in columns 8 to 12
abbrev pub IsPairOn : List Row → List ℕ → Result Pair Cause → Type 0
IsPairOn rows text =
    Then (λ r. r ≡ ok_or (called_by rows (columns text 2 6)) causes.Index) (λ row.
    Then (λ r. r ≡ ok_or (called_by rows (columns text 8 12)) causes.Index) (λ column r.
    r ≡ Ok (record { row = row; column = column })))

-- the values of a line stand in columns 14 to 34, 36 to 56 and 58 to 78
abbrev pub value_columns : List ℕ → ℕ → List ℕ
value_columns text k = columns text (14 + 22 * k) (34 + 22 * k)

-- a value of zero is the same as none
abbrev pub unless_zero : Decimal → Option Decimal
unless_zero d = if int_eq d.mant (pos 0) then None else Some d

-- the value that a text without blanks at its ends gives; an empty one gives none
abbrev pub IsGiven : List ℕ → Result (Option Decimal) Cause → Type 0
IsGiven [] result = result ≡ Ok None
IsGiven (byte ∷ bytes) result = Then (IsNumber (byte ∷ bytes)) (λ d r. r ≡ Ok (unless_zero d)) result

-- an element stands in its triangle: L has the row's index at or above the column's, U at or below it
abbrev pub is_within : Triangle → ℕ → ℕ → Bool
is_within Lower row column = nat_le column row
is_within Upper row column = nat_le row column

-- the element's row and column were given before. (The other order of the two stands in the other triangle.)
abbrev pub IsGivenBefore : List Cell → Cell → Type 0
IsGivenBefore before cell = Any (λ other. (other.row ≡ cell.row) × (other.col ≡ cell.col)) before

-- the element, where no element of its row and column was given before
abbrev pub IsNewElement : List Cell → Cell → Result Cell Cause → Type 0
IsNewElement before cell (Ok same) = (same ≡ cell) × ¬ (IsGivenBefore before cell)
IsNewElement before cell (Err cause) = (cause ≡ causes.Repeated) × IsGivenBefore before cell

-- the element of a value in the column of this index: the column is that of a row, it stands in the triangle, and it is new
abbrev pub IsElement : Triangle → List Row → List Cell → Called → ℕ → Decimal → Result Cell Cause → Type 0
IsElement triangle rows before row index value =
    Then (λ r. r ≡ ok_or (called rows index) causes.Index) (λ column.
    Then (λ r. r ≡ (if is_within triangle row.index column.index then Ok column else Err causes.Triangle)) (λ within.
    IsNewElement before (record { row = row.place; col = within.place; value = value })))

-- the elements so far, and one more where a value is given
abbrev pub WithValue : Triangle → List Row → Called → ℕ → List Cell → Option Decimal → Result (List Cell) Cause → Type 0
WithValue triangle rows row index before None result = result ≡ Ok before
WithValue triangle rows row index before (Some value) result = Then (IsElement triangle rows before row index value) (λ cell r. r ≡ Ok (before ++ (cell ∷ []))) result

-- value k of a line, counted from 0, stands in the column whose index is k more than that of the first
abbrev pub IsValueTaken : Triangle → List Row → List ℕ → Pair → List Cell → ℕ → Result (List Cell) Cause → Type 0
IsValueTaken triangle rows text pair before k = Then (IsGiven (value_columns text k)) (WithValue triangle rows pair.row (pair.column.index + k) before)

-- the elements so far and those of a line, its values from the left, or the first cause for which it is bad
abbrev pub AreValuesTaken : Triangle → List Row → List Cell → List ℕ → Result (List Cell) Cause → Type 0
AreValuesTaken triangle rows before text = Then (IsPairOn rows text) (λ pair. Through (IsValueTaken triangle rows text pair) before (0 ∷ 1 ∷ 2 ∷ []))

-- the cause is put at the line's number
abbrev pub IsLineTaken : Triangle → List Row → List Cell → PlainLine → Result (List Cell) LineFault → Type 0
IsLineTaken triangle rows before line = Renamed (fault_at line.number) (AreValuesTaken triangle rows before line.text)

-- the elements of a matrix with these lines of data, or its first bad line. Elements that are not given are zero
abbrev pub AreElements : Triangle → List Row → List PlainLine → Result (List Cell) LineFault → Type 0
AreElements triangle rows lines = Through (IsLineTaken triangle rows) [] lines

-- ---- what elements keep
-- the element is not zero, and its row and column are places of rows
pub record IsPlaced (n : ℕ) (cell : Cell) : Type 0 where
  pub row : cell.row < n
  pub col : cell.col < n
  pub given : cell.value.mant ≢ pos 0

-- no element stands twice, in either order of its row and column
abbrev pub AreApart : List Cell → Type 0
AreApart cells = (i j : ℕ) (one other : Cell) → slice_get cells i ≡ Some one → slice_get cells j ≡ Some other → i ≢ j
    → ¬ ((one.row ≡ other.row) × (one.col ≡ other.col)) × ¬ ((one.row ≡ other.col) × (one.col ≡ other.row))

-- what the elements of a matrix over n rows keep
pub record AreElementsOf (n : ℕ) (cells : List Cell) : Type 0 where
  pub placed : All (IsPlaced n) cells
  pub apart : AreApart cells

-- a matrix has one reading at most, or one bad line, and never both
abbrev pub OneMatrix : Type 0
OneMatrix = (triangle : Triangle) (rows : List Row) (lines : List PlainLine) → IsOne (AreElements triangle rows lines)
