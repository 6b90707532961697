use Rattle.std.proofs.Common.{List, All, sym, subst}
use Rattle.snx_rows.specs.Blocks.{IsIndex}
use Rattle.snx_rows.specs.declared.rows.Row.{Row}
use Rattle.snx_matrices.proofs.PlaceLaws.{called_within}
use Rattle.snx_matrices.proofs.places.Places.called.Goals as goal

pub returns-clause-within : goal.returns-clause-within
returns-clause-within c =
    let all = subst (λ (rows : List Row). All (λ row. IsIndex row.index) rows) c.self.view_is c.self.invariant.indexed in
    called_within c.args.self.now c.args.index c.in_ok-place.place all (sym c.in_ok-place.ensures)
