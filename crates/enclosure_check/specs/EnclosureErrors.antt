-- How the refusals of the pilot, the start vector and the certificate go over into those of an enclosure.
use Rattle.chol_guess.specs.declared.PilotError.{PilotError}
use Rattle.chol_guess.specs.declared.PilotError.TheVariants as pilot
use Rattle.enclosure_check.specs.declared.VectorError.{VectorError}
use Rattle.enclosure_check.specs.declared.VectorError.TheVariants as vector
use Rattle.enclosure_check.specs.declared.CheckError.{CheckError}
use Rattle.enclosure_check.specs.declared.CheckError.TheVariants as check
use Rattle.enclosure_check.specs.declared.EncloseError.{EncloseError}
use Rattle.enclosure_check.specs.declared.EncloseError.TheVariants as enclose

abbrev pub of_pilot : PilotError → EncloseError
of_pilot (pilot.Pivot row) = enclose.Pivot row
of_pilot (pilot.Condition col) = enclose.Condition col
of_pilot pilot.Memory = enclose.Memory

abbrev pub of_vector : VectorError → EncloseError
of_vector (vector.Range row) = enclose.Range row
of_vector vector.Memory = enclose.Memory

abbrev pub of_check : CheckError → EncloseError
of_check (check.Residual row size) = enclose.Residual row size
of_check (check.Defect row parts) = enclose.Defect row parts
of_check check.Memory = enclose.Memory
