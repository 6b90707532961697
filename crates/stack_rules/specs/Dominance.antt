-- What a stack is promised whose working table is dominant. Source of the condition: strict diagonal dominance, a classical one; its factor
-- and the bounds beside it are this program's own.
use Rattle.std.specs.Prelude.{◌≡◌, ◌≤◌, Ok, Err}
use Rattle.enclosure_check.specs.Enclosures.{Enclosure, IsEnclosureStep}
use Rattle.enclosure_check.specs.Steps.{Worked, intervals_of, midpoints_of, IsWorkedOf}
use Rattle.dominant_laws.specs.Dominant.{IsDominant}
use Rattle.bounds_report.specs.declared.PrintError.{PrintError}
use Rattle.stack_rules.specs.Refusals.{of_printing}
use Rattle.stack_rules.specs.Rules.{IsPrintingStep, IsAnswer}
use Rattle.stack_rules.specs.Stacks.{Stack}
use Rattle.stack_rules.specs.declared.StackError.{StackError}

-- the stack has at most 1,000 names, and its working table is dominant
pub record IsDominantStack (s : Stack) : Type 0 where
  pub few : s.rows ≤ 1000
  pub table : Worked
  pub worked : IsWorkedOf s.rows s.table table
  pub dominant : IsDominant s.rows (intervals_of table)

-- the stack has a working table and an enclosure of it, and the numbers of a row can't be printed
pub record IsRefusedInPrint (s : Stack) (cause : StackError) : Type 0 where
  pub table : Worked
  pub worked : IsWorkedOf s.rows s.table table
  pub enclosure : Enclosure
  pub encloses : IsEnclosureStep s.rows (intervals_of table) (midpoints_of table) (Ok enclosure)
  pub fault : PrintError
  pub printing : IsPrintingStep s table enclosure (Err fault)
  pub is_cause : cause ≡ of_printing fault

-- of a dominant stack neither the pilot nor the start vector nor the certificate is refused: what refuses it is that the numbers of a row
-- can't be printed
abbrev pub DominantAreEnclosed : Type 0
DominantAreEnclosed = (s : Stack) (cause : StackError) → IsDominantStack s → IsAnswer s (Err cause) → IsRefusedInPrint s cause
