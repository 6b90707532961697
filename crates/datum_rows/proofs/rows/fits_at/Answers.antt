use Rattle.std.proofs.Common.{◌∙◌, refl, sym}
use Rattle.datum_rows.specs.Views.{condition_view}
use Rattle.datum_rows.proofs.RowLaws.{does_not_fit, none_is, column_fits}
use Rattle.datum_rows.proofs.rows.fits_at.Goals as goal

pub returns-then-not-is_coordinate : goal.returns-then-not-is_coordinate
returns-then-not-is_coordinate c =
    let fits = column_fits c.args.coordinates.now c.args.scales.now (condition_view c.args.condition.now) c.args.i c.args.j (none_is _ (sym c.is_coordinate.ensures ∙ c.if-not-is_coordinate.true)) in
    (λ yes. fits, λ fits. refl)

pub returns-in-None : goal.returns-in-None
returns-in-None c =
    let none = c.in-None.ensures in
    (λ no. cc, λ fits. absurd (does_not_fit c.args.coordinates.now c.args.scales.now (condition_view c.args.condition.now) c.args.i c.args.j none.0 none.1 none.2 fits))
