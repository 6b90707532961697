use Rattle.std.proofs.Common.{◌∙◌, ap}
use Rattle.std.specs.List.{list_all}
use Rattle.correlations.specs.Exact.{deviation_of, is_one}
use Rattle.correlations.proofs.DiagonalLaws.{listed_more, deviation_here}
use Rattle.correlations.proofs.deviations.deviations_of.Goals as goal

pub loop-place-preserved : goal.loop-place-preserved
loop-place-preserved c =
    let id = c.at.result.now in
    listed_more (deviation_of c.args.rows.now c.args.cells.now c.args.names.now) c.args.names.now c.loop-place.place id c.deviation.result c.loop-place.deviations.items c.push.new.self.items c.at.ensures
    (deviation_here c.args.rows.now c.args.cells.now c.args.names.now c.in_ok-own.own.items c.loop-place.place id c.index.result.now c.all_ones-ones.result c.deviation.result c.in_ok-own.ensures.values c.at.ensures c.index.ensures (c.all_ones-ones.ensures ∙ ap (list_all is_one) c.deref.ensures.value) c.deviation.ensures) c.loop-place.invariant c.in_ok-push.ensures.items
