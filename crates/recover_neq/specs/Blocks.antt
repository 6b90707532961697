-- The blocks of normal equations: SOLUTION/APRIORI, SOLUTION/NORMAL_EQUATION_VECTOR and SOLUTION/NORMAL_EQUATION_MATRIX (SINEX 2.02
-- format description).
use Rattle.std.specs.Prelude.{List}
use Rattle.snx_rows.specs.declared.rows.Row.{Row}
use Rattle.snx_matrices.specs.declared.elements.Cell.{Cell}

-- the rows of the a priori values and of the right side, and the elements of the matrix over the rows of the right side
pub record Blocks : Type 0 where
  pub apriori : List Row
  pub vector : List Row
  pub cells : List Cell

abbrev pub blocks_of : List Row → List Row → List Cell → Blocks
blocks_of apriori vector cells = record { apriori = apriori; vector = vector; cells = cells }
