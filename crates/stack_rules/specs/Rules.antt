-- The rules from a stack of normal equations to its printed numbers, as three steps in order. Each step gives lists, or refuses
-- the stack with the first cause that there is.
use Rattle.std.specs.Prelude.{◌≡◌, ◌⊎◌, ℕ, ℤ, ◌+ℤ◌, List, Result, Ok, Err}
use Rattle.stated_order.specs.Steps.{Then, Renamed}
use Rattle.whole_numbers.specs.Lists.{at}
use Rattle.equil.specs.Tables.{exponent_of}
use Rattle.enclosure_check.specs.Enclosures.{Enclosure, IsEnclosureStep}
use Rattle.enclosure_check.specs.Steps.{Worked, intervals_of, midpoints_of, IsWorkingStep, radius_in}
use Rattle.bounds_report.specs.Printing.{ArePrinted}
use Rattle.bounds_report.specs.Refusals.{IsPrintRefused}
use Rattle.bounds_report.specs.declared.PrintError.{PrintError}
use Rattle.bounds_report.specs.declared.PrintError.TheVariants as print
use Rattle.bounds_report.specs.declared.numbers.Printed.{Printed}
use Rattle.stack_rules.specs.Refusals.{of_working, of_enclosure, of_printing}
use Rattle.stack_rules.specs.Stacks.{Stack}
use Rattle.stack_rules.specs.declared.Solved.{Solved}
use Rattle.stack_rules.specs.declared.StackError.{StackError}
use Rattle.stack_rules.specs.declared.StackError.TheVariants.{Memory}

-- ---- the printed numbers
-- the power of ten of a row: its exponent in the working table and its scale exponent
abbrev pub power_of : Stack → Worked → ℕ → ℤ
power_of s w i = exponent_of w.exponents i +ℤ s.scales i

-- the printed numbers of all rows, or the first row whose numbers can't be printed
abbrev pub IsPrintingStep : Stack → Worked → Enclosure → Result (List Printed) PrintError → Type 0
IsPrintingStep s w e (Ok rows) = ArePrinted s.rows (intervals_of w) e.pilot (power_of s w) s.apriori (at e.vector) (radius_in e.certificate) rows
IsPrintingStep s w e (Err (print.Range row)) = IsPrintRefused s.rows (power_of s w) s.apriori (at e.vector) (radius_in e.certificate) (print.Range row)
IsPrintingStep s w e (Err print.Memory) = ⊥

-- ---- all steps
-- the numbers of a report: the pilot's scale, the greatest defect and the greatest error of what encloses, and the rows
pub record Numbers : Type 0 where
  pub g : ℕ
  pub parts : ℕ
  pub error : ℕ
  pub rows : List Printed

-- the numbers of an answer in memory
abbrev pub numbers_in : Solved → Numbers
numbers_in s = record { g = s.g; parts = s.parts; error = s.error; rows = s.rows.items }

abbrev pub numbers_from : Enclosure → List Printed → Numbers
numbers_from e rows = record { g = e.pilot.g; parts = e.certificate.parts; error = e.certificate.error; rows = rows }

-- The answer of the rules to a stack: the numbers of its report, or the first cause for which they refuse it. First comes the
-- working table, then its enclosure by the pilot or the pilot transposed, then the printed numbers.
abbrev pub IsAnswer : Stack → Result Numbers StackError → Type 0
IsAnswer s =
    Then (Renamed of_working (IsWorkingStep s.rows s.table)) (λ w.
    Then (Renamed of_enclosure (IsEnclosureStep s.rows (intervals_of w) (midpoints_of w))) (λ e.
    Then (Renamed of_printing (IsPrintingStep s w e)) (λ rows answer.
    answer ≡ Ok (numbers_from e rows))))

-- a refusal of the rules, or want of memory
abbrev pub IsRefusedWith : Stack → StackError → Type 0
IsRefusedWith s cause = (cause ≡ Memory) ⊎ IsAnswer s (Err cause)
