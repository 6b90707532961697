-- The rows of the blocks of estimates, a priori values and right sides: what a line says, in the order in which it is tested
-- (SINEX 2.02 format description).
use Rattle.std.specs.Prelude.{◌≡◌, ◌^◌, ◌∷◌, ℕ, pos, int_lt, if◌then◌else◌, List, [], Option, Some, None, Result, Ok, Err}
use Rattle.stated_order.specs.Steps.{IsOne, Then, Renamed}
use Rattle.snx_lines.specs.Lines.{PlainLine, columns}
use Rattle.param_ids.specs.Plain.{PlainId}
use Rattle.param_ids.specs.Ids.{IsReadAs}
use Rattle.param_ids.specs.Texts.{unit_text}
use Rattle.param_ids.specs.declared.ids.IdFault.{IdFault}
use Rattle.param_ids.specs.declared.ids.IdFault.TheVariants as names
use Rattle.decimal_e.specs.Decimals.{Decimal}
use Rattle.decimal_e.specs.Fractions.{IsAtMost}
use Rattle.decimal_e.specs.Answers.{IsAnswer}
use Rattle.decimal_e.specs.declared.read.DecFault.TheVariants.{Char}
use Rattle.snx_rows.specs.Indices.{index_on}
use Rattle.snx_rows.specs.declared.causes.Cause.{Cause}
use Rattle.snx_rows.specs.declared.causes.Cause.TheVariants as causes
use Rattle.snx_rows.specs.declared.causes.LineFault.{LineFault}
use Rattle.snx_rows.specs.declared.rows.Shape.{Shape}
use Rattle.snx_rows.specs.declared.rows.Shape.TheVariants.{Value, Vector}
use Rattle.snx_rows.specs.declared.rows.Row.{Row}

-- what is there, or the cause where nothing is
abbrev pub or_cause : {X : Type 0} → Cause → Option X → Result X Cause
or_cause cause (Some x) = Ok x
or_cause cause None = Err cause

-- ---- the fields
-- the index
abbrev pub IsIndexOn : List ℕ → Result ℕ Cause → Type 0
IsIndexOn text result = result ≡ or_cause causes.Index (index_on text)

-- the name, in columns 8 to 39: its texts first, then its moment
abbrev pub name_cause : IdFault → Cause
name_cause names.Field = causes.Field
name_cause (names.Epoch fault) = causes.Epoch fault

abbrev pub IsNameOn : List ℕ → Result PlainId Cause → Type 0
IsNameOn text = Renamed name_cause (IsReadAs text)

-- the unit, in columns 41 to 44
abbrev pub IsUnitOn : List ℕ → Result (List ℕ) Cause → Type 0
IsUnitOn text result = result ≡ or_cause causes.Field (unit_text (columns text 41 44))

-- the number that a text writes
abbrev pub IsNumber : List ℕ → Result Decimal Cause → Type 0
IsNumber text = Renamed (λ fault. causes.Number fault) (IsAnswer text)

-- the value, in columns 48 to 68
abbrev pub IsValueOn : List ℕ → Result Decimal Cause → Type 0
IsValueOn text = IsNumber (columns text 48 68)

-- the value again, where it may have its size: an estimate or an a priori value is at most 10^12 in size, in its unit
abbrev pub IsSized : Shape → Decimal → Result Decimal Cause → Type 0
IsSized Value value (Ok same) = (same ≡ value) × IsAtMost (10 ^ 12) value
IsSized Value value (Err cause) = (cause ≡ causes.Size) × ¬ (IsAtMost (10 ^ 12) value)
IsSized Vector value result = result ≡ Ok value

-- a standard deviation is not below 0: at its first byte it stops being one
abbrev pub not_negative : Decimal → Result (Option Decimal) Cause
not_negative d = if int_lt d.mant (pos 0) then Err (causes.Number (Char 0)) else Ok (Some d)

-- the standard deviation that a text without blanks at its ends writes; an empty one writes none
abbrev pub IsDeviation : List ℕ → Result (Option Decimal) Cause → Type 0
IsDeviation [] result = result ≡ Ok None
IsDeviation (byte ∷ bytes) result = Then (IsNumber (byte ∷ bytes)) (λ d other. other ≡ not_negative d) result

-- the standard deviation, in columns 70 to 80; right sides have none, and these columns are not read there
abbrev pub IsDeviationOn : Shape → List ℕ → Result (Option Decimal) Cause → Type 0
IsDeviationOn Value text result = IsDeviation (columns text 70 80) result
IsDeviationOn Vector text result = result ≡ Ok None

-- ---- the row
-- what a line says as a row of a shape, or the first cause for which it says nothing
abbrev pub IsRead : Shape → PlainLine → Result Row Cause → Type 0
IsRead shape line =
    Then (IsIndexOn line.text) (λ index.
    Then (IsNameOn line.text) (λ id.
    Then (IsUnitOn line.text) (λ unit.
    Then (IsValueOn line.text) (λ value.
    Then (IsSized shape value) (λ sized.
    Then (IsDeviationOn shape line.text) (λ dev other.
    other ≡ Ok (record { index = index; id = id; unit = unit; value = sized; dev = dev; line = line.number })))))))

-- the cause is put at the line's number
abbrev pub fault_at : ℕ → Cause → LineFault
fault_at number cause = record { line = number; cause = cause }

abbrev pub IsRow : Shape → PlainLine → Result Row LineFault → Type 0
IsRow shape line = Renamed (fault_at line.number) (IsRead shape line)

-- a line is one row at most or has one fault, and never both
abbrev pub OneRow : Type 0
OneRow = (shape : Shape) (line : PlainLine) → IsOne (IsRow shape line)
