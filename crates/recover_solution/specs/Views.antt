-- A solution in memory, without where it lies, and what keeps its parts sound.
use Rattle.std.specs.Prelude.{All, length}
use Rattle.snx_rows.specs.Blocks.{AreSound, HasShortDeviation}
use Rattle.snx_rows.specs.declared.rows.Shape.TheVariants.{Value}
use Rattle.snx_matrices.specs.Elements.{AreElementsOf}
use Rattle.recover_solution.specs.Solutions.{PlainConstraint, PlainSolution}
use Rattle.recover_solution.specs.Solutions as plain
use Rattle.recover_solution.specs.declared.solutions.Constraint.{Constraint}
use Rattle.recover_solution.specs.declared.solutions.Constraint.TheVariants.{Free, Matrix, Sigmas}
use Rattle.recover_solution.specs.declared.solutions.Solution.{Solution}

abbrev pub constraint_view : Constraint → PlainConstraint
constraint_view Free = plain.Free
constraint_view (Matrix content cells) = plain.Matrix content cells.now
constraint_view Sigmas = plain.Sigmas

abbrev pub solution_view : Solution → PlainSolution
solution_view s = record { apriori = s.apriori.now; estimates = s.estimates.now; content = s.content; cells = s.cells.now; constraint = constraint_view s.constraint }

-- the elements of the constraints' matrix are those of a matrix over the a priori rows
abbrev pub IsConstraintOver : PlainConstraint → PlainSolution → Type 0
IsConstraintOver (plain.Matrix content cells) solution = AreElementsOf (length solution.apriori) cells
IsConstraintOver other solution = Unit {0}

-- the rows and the elements are those of blocks that were read
pub record IsRead (solution : PlainSolution) : Type 0 where
  pub apriori : AreSound Value solution.apriori
  pub deviations : All HasShortDeviation solution.apriori
  pub estimates : AreSound Value solution.estimates
  pub cells : AreElementsOf (length solution.estimates) solution.cells
  pub constraint : IsConstraintOver solution.constraint solution
