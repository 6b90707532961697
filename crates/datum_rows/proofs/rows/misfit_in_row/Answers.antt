use Rattle.std.proofs.Common.{◌∙◌, sym}
use Rattle.datum_rows.specs.Rows.{FitsAt}
use Rattle.datum_rows.specs.Views.{condition_view}
use Rattle.datum_rows.proofs.RowLaws.{none_is, row_fits, below_next}
use Rattle.datum_rows.proofs.rows.misfit_in_row.Goals as goal

pub returns-then-not-is_coordinate-clause-none : goal.returns-then-not-is_coordinate-clause-none
returns-then-not-is_coordinate-clause-none c =
    let none = none_is _ (sym c.is_coordinate.ensures ∙ c.if-not-is_coordinate.true) in
    λ j l. row_fits c.args.coordinates.now c.args.scales.now (condition_view c.args.condition.now) c.args.row j none

pub loop-col-preserved : goal.loop-col-preserved
loop-col-preserved c =
    below_next (FitsAt c.args.coordinates.now c.args.scales.now (condition_view c.args.condition.now) c.args.row) c.loop-col.col c.loop-col.invariant (c.fits_at.ensures.0 c.if-not-fits_at.false)
