-- The refusals of the steps, as refusals of a stack.
use Rattle.equil.specs.declared.EquilError.{EquilError}
use Rattle.equil.specs.declared.EquilError.TheVariants as equil
use Rattle.enclosure_check.specs.declared.EncloseError.{EncloseError}
use Rattle.enclosure_check.specs.declared.EncloseError.TheVariants as enclose
use Rattle.bounds_report.specs.declared.PrintError.{PrintError}
use Rattle.bounds_report.specs.declared.PrintError.TheVariants as print
use Rattle.stack_rules.specs.declared.StackError.{StackError}
use Rattle.stack_rules.specs.declared.StackError.TheVariants.{Range, Pivot, Condition, Residual, Defect, Memory}

abbrev pub of_working : EquilError → StackError
of_working (equil.Range row col) = Range row col
of_working equil.Memory = Memory

abbrev pub of_enclosure : EncloseError → StackError
of_enclosure (enclose.Pivot row) = Pivot row
of_enclosure (enclose.Condition col) = Condition col
of_enclosure (enclose.Range row) = Range row row
of_enclosure (enclose.Residual row size) = Residual row size
of_enclosure (enclose.Defect row parts) = Defect row parts
of_enclosure enclose.Memory = Memory

abbrev pub of_printing : PrintError → StackError
of_printing (print.Range row) = Range row row
of_printing print.Memory = Memory
