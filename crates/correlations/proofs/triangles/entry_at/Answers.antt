use Rattle.std.proofs.Common.{◌∙◌, None, w32, arith}
use Rattle.std.proofs.lemmas.Int.{ints, to_z-of_z}
use Rattle.std.proofs.lemmas.List.{get_or_read}
use Rattle.correlations.proofs.PlaceLaws.{placed_answer}
use Rattle.correlations.proofs.triangles.entry_at.Goals as goal

pub returns : goal.returns
returns g c =
    placed_answer c.args.given.now c.args.deviations.now c.args.exponents.now c.args.row c.args.col c.entry_of.result c.correlation_at-correlation.result c.index-deviations-row.result c.index-deviations-col.result _ c.correlation_at-correlation.ensures
    (get_or_read c.args.deviations.now c.args.row c.index-deviations-row.result (omega (arith, c.requires.row, c.requires.deviations)) c.index-deviations-row.is None)
    (get_or_read c.args.deviations.now c.args.col c.index-deviations-col.result (omega (arith, c.requires.col, c.requires.deviations)) c.index-deviations-col.is None)
    (to_z-of_z w32 c.power_at.result (omega (arith, ints, c.power_at.ensures.low, c.power_at.ensures.high)) ∙ c.power_at.ensures.value) c.entry_of.ensures
