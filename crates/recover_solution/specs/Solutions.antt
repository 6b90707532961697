-- A solution with the constraints in it: SOLUTION/ESTIMATE, SOLUTION/APRIORI, SOLUTION/MATRIX_ESTIMATE and SOLUTION/MATRIX_APRIORI (SINEX
-- 2.02 format description).
use Rattle.std.specs.Prelude.{ℕ, Bool, false, ◌||◌, ◌==◌, is_some, List}
use Rattle.std.specs.List.{filter, list_any}
use Rattle.param_ids.specs.Plain.{PlainId}
use Rattle.snx_rows.specs.Named.{place_of}
use Rattle.snx_rows.specs.declared.rows.Row.{Row}
use Rattle.snx_matrices.specs.declared.elements.Cell.{Cell}
use Rattle.snx_matrices.specs.declared.elements.Content.{Content}
use Rattle.named_tables.specs.Deviations.{sigma_in}

-- the constraints that are removed: none; those of a matrix over the a priori rows; those of the rows' standard deviations
pub data PlainConstraint : Type 0 where
  Free : PlainConstraint
  Matrix : Content → List Cell → PlainConstraint
  Sigmas : PlainConstraint

-- the rows of the a priori values and of the estimates, what the matrix over the rows of the estimates has and its elements, and the
-- constraints
pub record PlainSolution : Type 0 where
  pub apriori : List Row
  pub estimates : List Row
  pub content : Content
  pub cells : List Cell
  pub constraint : PlainConstraint

-- ---- constrained rows
-- an element stands in the row or the column at a place
abbrev pub touches : ℕ → Cell → Bool
touches k cell = (cell.row == k) || (cell.col == k)

-- it stands in the row or the column of a name
abbrev pub is_touched : List Row → List Cell → PlainId → Bool
is_touched apriori cells id = list_any (touches (place_of apriori id)) cells

-- those of some names for which one does, in their order
abbrev pub touched_names : List Row → List Cell → List PlainId → List PlainId
touched_names apriori cells names = filter (is_touched apriori cells) names

-- an a priori row is constrained: the matrix has an element in its row or column, or it has a positive standard deviation
abbrev pub is_constrained : PlainConstraint → List Row → Row → Bool
is_constrained Free apriori row = false
is_constrained (Matrix content cells) apriori row = is_touched apriori cells row.id
is_constrained Sigmas apriori row = is_some (sigma_in row)
