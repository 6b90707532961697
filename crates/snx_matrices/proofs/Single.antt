-- A matrix has one reading at most, or one bad line, and never both.
use Rattle.std.proofs.Common.{◌+◌, ◌∷◌, ◌∙◌, ℕ, List, [], Option, Some, None, Ok, Err, sym, ap}
use Rattle.stated_order.specs.Steps.{IsOne}
use Rattle.stated_order.proofs.StepLaws.{then_is_one, through_is_one, renamed_is_one}
use Rattle.snx_lines.specs.Lines.{PlainLine}
use Rattle.decimal_e.specs.Decimals.{Decimal}
use Rattle.snx_rows.specs.Rows.{fault_at}
use Rattle.snx_rows.specs.declared.rows.Row.{Row}
use Rattle.snx_rows.proofs.Alone.{number_is_one}
use Rattle.snx_matrices.specs.Elements.{value_columns, IsPairOn, IsGiven, IsNewElement, IsElement, WithValue, IsValueTaken, AreValuesTaken, IsLineTaken, OneMatrix}
use Rattle.snx_matrices.specs.declared.elements.Triangle.{Triangle}
use Rattle.snx_matrices.specs.declared.elements.Called.{Called}
use Rattle.snx_matrices.specs.declared.elements.Pair.{Pair}
use Rattle.snx_matrices.specs.declared.elements.Cell.{Cell}

pair_is_one : (rows : List Row) (text : List ℕ) → IsOne (IsPairOn rows text)
pair_is_one rows text = then_is_one _ _ (λ r s a b. a ∙ sym b) (λ row of_row. then_is_one _ _ (λ r s a b. a ∙ sym b) (λ column of_column r s a b. a ∙ sym b))

given_is_one : (text : List ℕ) → IsOne (IsGiven text)
given_is_one [] = λ r s a b. a ∙ sym b
given_is_one (byte ∷ bytes) = then_is_one _ _ (number_is_one (byte ∷ bytes)) (λ d of_number r s a b. a ∙ sym b)

new_is_one : (before : List Cell) (cell : Cell) → IsOne (IsNewElement before cell)
new_is_one before cell (Ok x) (Ok y) a b = ap Ok (a.0 ∙ sym b.0)
new_is_one before cell (Ok x) (Err d) a b = absurd (a.1 b.1)
new_is_one before cell (Err c) (Ok y) a b = absurd (b.1 a.1)
new_is_one before cell (Err c) (Err d) a b = ap Err (a.0 ∙ sym b.0)

module _ (triangle : Triangle) (rows : List Row) where
  element_is_one : (before : List Cell) (row : Called) (index : ℕ) (value : Decimal) → IsOne (IsElement triangle rows before row index value)
  element_is_one before row index value =
      then_is_one _ _ (λ r s a b. a ∙ sym b) (λ column of_column.
      then_is_one _ _ (λ r s a b. a ∙ sym b) (λ within of_within. new_is_one before (record { row = row.place; col = within.place; value = value })))

  with_is_one : (row : Called) (index : ℕ) (before : List Cell) (given : Option Decimal) → IsOne (WithValue triangle rows row index before given)
  with_is_one row index before None = λ r s a b. a ∙ sym b
  with_is_one row index before (Some value) = then_is_one _ _ (element_is_one before row index value) (λ cell of_cell r s a b. a ∙ sym b)

  value_is_one : (text : List ℕ) (pair : Pair) (before : List Cell) (k : ℕ) → IsOne (IsValueTaken triangle rows text pair before k)
  value_is_one text pair before k = then_is_one _ _ (given_is_one (value_columns text k)) (λ given of_text. with_is_one pair.row (pair.column.index + k) before given)

  values_is_one : (before : List Cell) (text : List ℕ) → IsOne (AreValuesTaken triangle rows before text)
  values_is_one before text =
      then_is_one _ _ (pair_is_one rows text) (λ pair of_text. through_is_one (IsValueTaken triangle rows text pair) (value_is_one text pair) before (0 ∷ 1 ∷ 2 ∷ []))

  line_is_one : (before : List Cell) (line : PlainLine) → IsOne (IsLineTaken triangle rows before line)
  line_is_one before line = renamed_is_one (fault_at line.number) (AreValuesTaken triangle rows before line.text) (values_is_one before line.text)

pub matrix_is_one : OneMatrix
matrix_is_one triangle rows lines = through_is_one (IsLineTaken triangle rows) (line_is_one triangle rows) [] lines
