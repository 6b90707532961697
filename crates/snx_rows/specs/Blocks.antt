-- The rows of a whole block: SOLUTION/ESTIMATE, SOLUTION/APRIORI or SOLUTION/NORMAL_EQUATION_VECTOR (SINEX 2.02 format
-- description). That a block has at most 1,000 rows is this program's own.
use Rattle.std.specs.Prelude.{◌≡◌, ◌≤◌, ◌<◌, ◌^◌, ◌⊎◌, ℕ, List, [], length, Some, Result, Ok, Err, All, slice_get, IfSome, unsigned_abs}
use Rattle.std.specs.List.{Any}
use Rattle.stated_order.specs.Steps.{IsOne, Then, Renamed, InTurn}
use Rattle.snx_lines.specs.Lines.{PlainLine}
use Rattle.decimal_e.specs.Fractions.{IsAtMost}
use Rattle.snx_rows.specs.Rows.{IsRead, fault_at}
use Rattle.snx_rows.specs.declared.causes.Cause.{Cause}
use Rattle.snx_rows.specs.declared.causes.Cause.TheVariants as causes
use Rattle.snx_rows.specs.declared.causes.LineFault.{LineFault}
use Rattle.snx_rows.specs.declared.causes.DocError.{DocError}
use Rattle.snx_rows.specs.declared.causes.DocError.TheVariants as errors
use Rattle.snx_rows.specs.declared.rows.Shape.{Shape}
use Rattle.snx_rows.specs.declared.rows.Shape.TheVariants.{Value, Vector}
use Rattle.snx_rows.specs.declared.rows.Row.{Row}

-- what a reader answers: the result that there is, without where it lies in memory; or want of memory, which may come in its place
abbrev pub Answers : {T X : Type 0} → (T → X) → (Result X LineFault → Type 0) → Result T DocError → Type 0
Answers view IsResult (Ok x) = IsResult (Ok (view x))
Answers view IsResult (Err (errors.Line fault)) = IsResult (Err fault)
Answers view IsResult (Err errors.Memory) = Unit {0}

-- the index or the name of a row stands on one of these rows
abbrev pub StandsOn : List Row → Row → Type 0
StandsOn rows row = Any (λ other. (other.index ≡ row.index) ⊎ (other.id ≡ row.id)) rows

-- the row, where its index and its name are new in the block
abbrev pub IsNew : List Row → Row → Result Row Cause → Type 0
IsNew before row (Ok same) = (same ≡ row) × ¬ (StandsOn before row)
IsNew before row (Err cause) = (cause ≡ causes.Repeated) × StandsOn before row

-- the row, where the block has room for it: it has at most 1,000
abbrev pub HasRoom : List Row → Row → Result Row Cause → Type 0
HasRoom before row (Ok same) = (same ≡ row) × (length before < 1000)
HasRoom before row (Err cause) = (cause ≡ causes.TooMany) × (1000 ≤ length before)

-- the next row of a block: what its line says as a row of the shape, new, and with room for it
abbrev pub IsNextRow : Shape → List Row → PlainLine → Result Row LineFault → Type 0
IsNextRow shape before line = Renamed (fault_at line.number) (Then (IsRead shape line) (λ row. Then (IsNew before row) (HasRoom before)))

-- the rows of a block with these lines of data, or its first bad line
abbrev pub AreRows : Shape → List PlainLine → Result (List Row) LineFault → Type 0
AreRows shape lines = InTurn (IsNextRow shape) [] lines

-- an index is a number from 1 to 99999
abbrev pub IsIndex : ℕ → Type 0
IsIndex index = (1 ≤ index) × (index ≤ 99999)

-- no two rows share what f gives of them
abbrev pub AreDistinct : {X : Type 0} → (Row → X) → List Row → Type 0
AreDistinct f rows = (i j : ℕ) (one other : Row) → slice_get rows i ≡ Some one → slice_get rows j ≡ Some other → f one ≡ f other → i ≡ j

-- the size that rows of a shape have: an estimate or an a priori value is at most 10^12 in size
abbrev pub AreSized : Shape → List Row → Type 0
AreSized Value rows = All (λ row. IsAtMost (10 ^ 12) row.value) rows
AreSized Vector rows = Unit {0}

-- a standard deviation has at most 18 digits (its columns hold no more than 11)
abbrev pub HasShortDeviation : Row → Type 0
HasShortDeviation row = IfSome row.dev (λ dev. unsigned_abs dev.mant < 10 ^ 18)

-- what the rows of a block keep
pub record AreSound (shape : Shape) (rows : List Row) : Type 0 where
  pub few : length rows ≤ 1000
  pub indexed : All (λ row. IsIndex row.index) rows
  pub indices : AreDistinct (λ row. row.index) rows
  pub names : AreDistinct (λ row. row.id) rows
  pub sized : AreSized shape rows
  pub deviations : All HasShortDeviation rows

-- a block of rows has one reading at most, or one bad line, and never both
abbrev pub OneBlock : Type 0
OneBlock = (shape : Shape) (lines : List PlainLine) → IsOne (AreRows shape lines)
