use Rattle.std.proofs.Common.{◌<◌, ◌∙◌, sym, arith}
use Rattle.datum_rows.specs.Views.{condition_view}
use Rattle.datum_rows.proofs.RowLaws.{none_is, nothing_in_row, columns_next}
use Rattle.datum_rows.proofs.rows.add_row.Goals as goal

pub returns-then-not-is_coordinate-clause-here : goal.returns-then-not-is_coordinate-clause-here
returns-then-not-is_coordinate-clause-here g c =
    let none = none_is _ (sym c.is_coordinate.ensures ∙ c.if-not-is_coordinate.true) in
    λ j low. nothing_in_row c.args.coordinates.now c.args.scales.now (condition_view c.args.condition.now) c.args.table.now c.args.row j none

pub loop-col-preserved : goal.loop-col-preserved
loop-col-preserved g c =
    let before = c.loop-col.invariant in
    let after = c.add_at.ensures in
    let within : c.args.row < c.args.table.now.size = omega (arith, c.requires.size) in
    let next = columns_next c.args.coordinates.now c.args.scales.now (condition_view c.args.condition.now) c.args.table.now c.loop-col.table c.add_at.new.table c.args.row c.loop-col.col within (omega arith) before.done before.left before.others after.here
    (λ i j l low apart. after.others i j (omega (arith, before.size)) low apart) in
    record { size = after.size ∙ before.size; whole = after.whole; done = next.done; left = next.left; others = next.others }
