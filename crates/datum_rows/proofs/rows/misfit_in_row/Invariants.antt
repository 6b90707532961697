use Rattle.stated_order.specs.First.{HoldsBelow}
use Rattle.datum_rows.specs.Rows.{FitsAt}
use Rattle.datum_rows.specs.Views.{condition_view}
use Rattle.datum_rows.proofs.rows.misfit_in_row.Given as goal

abbrev pub invariant-loop-col : goal.invariant-loop-col
invariant-loop-col l = HoldsBelow l.col (FitsAt l.coordinates l.scales (condition_view l.condition) l.row)
