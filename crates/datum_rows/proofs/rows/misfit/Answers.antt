use Rattle.datum_rows.specs.Rows.{FitsAt}
use Rattle.datum_rows.specs.Views.{condition_view}
use Rattle.datum_rows.proofs.RowLaws.{lower_next}
use Rattle.datum_rows.proofs.rows.misfit.Goals as goal

pub loop-row-preserved : goal.loop-row-preserved
loop-row-preserved c = lower_next (FitsAt c.args.coordinates.now c.args.scales.now (condition_view c.args.condition.now)) c.loop-row.row c.loop-row.invariant c.in_default.ensures.none
