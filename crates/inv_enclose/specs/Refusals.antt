-- The refusals of the steps, as refusals of an inverse.
use Rattle.std.specs.Prelude.{ℕ}
use Rattle.equil.specs.declared.EquilError.{EquilError}
use Rattle.equil.specs.declared.EquilError.TheVariants as equil
use Rattle.chol_guess.specs.declared.PilotError.{PilotError}
use Rattle.chol_guess.specs.declared.PilotError.TheVariants as pilot
use Rattle.enclosure_check.specs.declared.VectorError.{VectorError}
use Rattle.enclosure_check.specs.declared.VectorError.TheVariants as vector
use Rattle.enclosure_check.specs.declared.CheckError.{CheckError}
use Rattle.enclosure_check.specs.declared.CheckError.TheVariants as check
use Rattle.inv_enclose.specs.declared.InvError.{InvError}
use Rattle.inv_enclose.specs.declared.InvError.TheVariants.{Range, Pivot, Condition, Residual, Defect, Memory}

abbrev pub of_working : EquilError → InvError
of_working (equil.Range row col) = Range row col
of_working equil.Memory = Memory

abbrev pub of_pilot : PilotError → InvError
of_pilot (pilot.Pivot row) = Pivot row
of_pilot (pilot.Condition col) = Condition col
of_pilot pilot.Memory = Memory

-- a start vector is one of a column
abbrev pub of_vector : ℕ → VectorError → InvError
of_vector col (vector.Range row) = Range row col
of_vector col vector.Memory = Memory

abbrev pub of_check : CheckError → InvError
of_check (check.Residual row size) = Residual row size
of_check (check.Defect row parts) = Defect row parts
of_check check.Memory = Memory
