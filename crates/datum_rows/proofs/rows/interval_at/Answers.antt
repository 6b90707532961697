use Rattle.std.proofs.Common.{◌∙◌}
use Rattle.datum_rows.proofs.RowLaws.{product_read, power_read, over_moved}
use Rattle.datum_rows.proofs.rows.interval_at.Goals as goal

pub returns : goal.returns
returns c =
    let over = c.small_over_square.ensures in
    let both = c.product_at-both in
    let power = c.power_at-power in
    (over.0, over_moved _ _ c.args.condition.now.sigma _ _ over.0 (product_read both.result both.ensures.few ∙ both.ensures.value) (power_read power.result power.ensures.low power.ensures.high ∙ power.ensures.value) over.1, over.2)
