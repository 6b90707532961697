use Rattle.std.proofs.Common.{◌∙◌, get_or, ap, arith}
use Rattle.snx_rows.specs.Named.{place_of, zero_decimal}
use Rattle.snx_matrices.specs.Named.{element_of}
use Rattle.correlations.proofs.DiagonalLaws.{listed_more}
use Rattle.correlations.proofs.deviations.own_elements.Goals as goal

pub loop-place-preserved : goal.loop-place-preserved
loop-place-preserved c =
    let rows = c.args.rows.now in
    let id = c.at.result.now in
    listed_more (λ one. element_of rows c.args.cells.now one one) c.args.names.now c.loop-place.place id c.own_element.result c.loop-place.own.items c.push.new.self.items c.at.ensures
    (c.own_element.ensures.value ∙ ap (λ l. get_or l (place_of rows id) zero_decimal) c.deref.ensures.value ∙ c.in_ok-given.ensures.values (place_of rows id) (omega (arith, c.own_element.ensures.bound))) c.loop-place.invariant c.in_ok-push.ensures.items
