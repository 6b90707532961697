-- A line is one row at most or has one fault, and never both; so has a block of rows one reading.
use Rattle.std.proofs.Common.{arith, ◌∙◌, ◌∷◌, ℕ, List, [], Ok, Err, sym, ap}
use Rattle.stated_order.specs.Steps.{IsOne}
use Rattle.stated_order.proofs.StepLaws.{then_is_one, renamed_is_one, in_turn_is_one}
use Rattle.snx_lines.specs.Lines.{PlainLine, columns}
use Rattle.param_ids.specs.Ids.{IsReadAs}
use Rattle.param_ids.proofs.OneName as one_name
use Rattle.decimal_e.specs.Decimals.{Decimal}
use Rattle.decimal_e.specs.Answers.{IsAnswer}
use Rattle.decimal_e.proofs.Outcomes.{one_answer_of}
use Rattle.snx_rows.specs.Rows.{name_cause, fault_at, IsNumber, IsSized, IsDeviation, IsDeviationOn, IsRead, IsRow}
use Rattle.snx_rows.specs.Blocks.{IsNew, HasRoom, IsNextRow, OneBlock}
use Rattle.snx_rows.specs.declared.causes.Cause.TheVariants as causes
use Rattle.snx_rows.specs.declared.rows.Shape.{Shape}
use Rattle.snx_rows.specs.declared.rows.Row.{Row}
use Rattle.snx_rows.specs.declared.rows.Shape.TheVariants.{Value, Vector}

-- ---- the fields
pub number_is_one : (text : List ℕ) → IsOne (IsNumber text)
number_is_one text = renamed_is_one (λ fault. causes.Number fault) (IsAnswer text) (one_answer_of text)

sized_is_one : (shape : Shape) (value : Decimal) → IsOne (IsSized shape value)
sized_is_one Value value (Ok x) (Ok y) a b = ap Ok (a.0 ∙ sym b.0)
sized_is_one Value value (Ok x) (Err d) a b = absurd (b.1 a.1)
sized_is_one Value value (Err c) (Ok y) a b = absurd (a.1 b.1)
sized_is_one Value value (Err c) (Err d) a b = ap Err (a.0 ∙ sym b.0)
sized_is_one Vector value r s a b = a ∙ sym b

deviation_is_one : (text : List ℕ) → IsOne (IsDeviation text)
deviation_is_one [] = λ r s a b. a ∙ sym b
deviation_is_one (byte ∷ bytes) = then_is_one _ _ (number_is_one (byte ∷ bytes)) (λ d given r s a b. a ∙ sym b)

deviation_on_is_one : (shape : Shape) (text : List ℕ) → IsOne (IsDeviationOn shape text)
deviation_on_is_one Value text = deviation_is_one (columns text 70 80)
deviation_on_is_one Vector text = λ r s a b. a ∙ sym b

-- ---- the row
read_is_one : (shape : Shape) (line : PlainLine) → IsOne (IsRead shape line)
read_is_one shape line =
    then_is_one _ _ (λ r s a b. a ∙ sym b) (λ index of_index.
    then_is_one _ _ (renamed_is_one name_cause (IsReadAs line.text) (one_name.read_is_one line.text)) (λ id of_id.
    then_is_one _ _ (λ r s a b. a ∙ sym b) (λ unit of_unit.
    then_is_one _ _ (number_is_one (columns line.text 48 68)) (λ value of_value.
    then_is_one _ _ (sized_is_one shape value) (λ sized of_size.
    then_is_one _ _ (deviation_on_is_one shape line.text) (λ dev of_dev r s a b. a ∙ sym b))))))

pub row_is_one : (shape : Shape) (line : PlainLine) → IsOne (IsRow shape line)
row_is_one shape line = renamed_is_one (fault_at line.number) (IsRead shape line) (read_is_one shape line)

-- ---- the rows of a block
new_is_one : (before : List Row) (row : Row) → IsOne (IsNew before row)
new_is_one before row (Ok x) (Ok y) a b = ap Ok (a.0 ∙ sym b.0)
new_is_one before row (Ok x) (Err d) a b = absurd (a.1 b.1)
new_is_one before row (Err c) (Ok y) a b = absurd (b.1 a.1)
new_is_one before row (Err c) (Err d) a b = ap Err (a.0 ∙ sym b.0)

room_is_one : (before : List Row) (row : Row) → IsOne (HasRoom before row)
room_is_one before row (Ok x) (Ok y) a b = ap Ok (a.0 ∙ sym b.0)
room_is_one before row (Ok x) (Err d) a b = absurd (omega (arith, a.1, b.1))
room_is_one before row (Err c) (Ok y) a b = absurd (omega (arith, a.1, b.1))
room_is_one before row (Err c) (Err d) a b = ap Err (a.0 ∙ sym b.0)

next_row_is_one : (shape : Shape) (before : List Row) (line : PlainLine) → IsOne (IsNextRow shape before line)
next_row_is_one shape before line =
    renamed_is_one (fault_at line.number) _
    (then_is_one _ _ (read_is_one shape line) (λ row of_line. then_is_one _ _ (new_is_one before row) (λ same of_row. room_is_one before same)))

pub rows_are_one : OneBlock
rows_are_one shape lines = in_turn_is_one (IsNextRow shape) (next_row_is_one shape) [] lines
