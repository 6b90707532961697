use Rattle.datum_rows.proofs.ListLaws.{tested_next}
use Rattle.datum_rows.proofs.rows.+first_misfit.Goals as goal

pub returns-in-None : goal.returns-in-None
returns-in-None t c =
    tested_next c.args.coordinates.now c.args.scales.now c.args.conditions.now c.condition-item.result c.in-len1-up.len_at_least c.condition-item.is c.first_misfit.result c.in-None.ensures.none c.first_misfit.ensures
