use Rattle.std.proofs.Common.{◌∙◌, sym}
use Rattle.datum_rows.specs.Views.{condition_view}
use Rattle.datum_rows.proofs.RowLaws.{does_not_fit, none_is, nothing_in_column}
use Rattle.datum_rows.proofs.rows.add_at.Goals as goal

pub returns-then-not-is_coordinate-clause-here : goal.returns-then-not-is_coordinate-clause-here
returns-then-not-is_coordinate-clause-here g c =
    nothing_in_column c.args.coordinates.now c.args.scales.now (condition_view c.args.condition.now) c.args.table.now c.args.row c.args.col (none_is _ (sym c.is_coordinate.ensures ∙ c.if-not-is_coordinate.true))

pub unreachable-requires : goal.unreachable-requires
unreachable-requires g c =
    let none = c.in-None.ensures in
    does_not_fit c.args.coordinates.now c.args.scales.now (condition_view c.args.condition.now) c.args.row c.args.col none.0 none.1 none.2 c.requires.fits
