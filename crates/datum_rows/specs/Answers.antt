-- What the call answers.
use Rattle.datum_rows.specs.Additions.{Fault, Unmatched, Range}
use Rattle.datum_rows.specs.declared.DatumError.{DatumError}
use Rattle.datum_rows.specs.declared.DatumError.TheVariants as errors

-- what a refusal says: P of the fault, and nothing where memory is wanting
abbrev pub IfFault : (Fault → Type 0) → DatumError → Type 0
IfFault P (errors.Unmatched site) = P (Unmatched site)
IfFault P (errors.Range row col) = P (Range row col)
IfFault P errors.Memory = Unit {0}
