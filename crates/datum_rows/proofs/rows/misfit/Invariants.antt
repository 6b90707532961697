use Rattle.stated_order.specs.First.{HoldsLower}
use Rattle.datum_rows.specs.Rows.{FitsAt}
use Rattle.datum_rows.specs.Views.{condition_view}
use Rattle.datum_rows.proofs.rows.misfit.Given as goal

abbrev pub invariant-loop-row : goal.invariant-loop-row
invariant-loop-row l = HoldsLower l.row (FitsAt l.coordinates l.scales (condition_view l.condition))
