use Rattle.std.proofs.Common.{◌<◌, ◌∙◌, arith}
use Rattle.datum_rows.specs.Views.{condition_view}
use Rattle.datum_rows.proofs.RowLaws.{rows_next}
use Rattle.datum_rows.proofs.rows.add_condition.Goals as goal

pub loop-row-preserved : goal.loop-row-preserved
loop-row-preserved g c =
    let before = c.loop-row.invariant in
    let after = c.add_row.ensures in
    let within : c.loop-row.row < c.args.table.now.size = omega (arith, c.requires.size) in
    let next = rows_next c.args.coordinates.now c.args.scales.now (condition_view c.args.condition.now) c.args.table.now c.loop-row.table c.add_row.new.table c.loop-row.row within before.done before.left after.here
    (λ i j l low apart. after.others i j (omega (arith, before.size)) low apart) in
    record { size = after.size ∙ before.size; whole = after.whole; done = next.done; left = next.left }
