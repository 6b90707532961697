use Rattle.std.proofs.Common.{◌<◌, ◌∙◌, subst, arith}
use Rattle.file_recovery.proofs.SpreadLaws.{RowsSpread, rows_next, spread_each}
use Rattle.file_recovery.proofs.spreading.spread_rows.Goals as goal

pub loop-row-preserved : goal.loop-row-preserved
loop-row-preserved g c =
    let before = c.loop-row.invariant in
    let after = c.spread_row.ensures in
    let within : c.loop-row.row < c.loop-row.table.size = omega (arith, c.size-row-end.ensures.value, before.size) in
    record {
      size = after.size ∙ before.size;
      whole = after.whole;
      done = rows_next c.args.small.now c.loop-row.table c.spread_row.new.table c.args.places.now c.loop-row.row within before.done after.here after.others;
    }

pub returns-clause-each : goal.returns-clause-each
returns-clause-each g c = λ i j li lj.
    spread_each c.args.small.now c.loop-row.table c.args.places.now c.loop-row.row c.loop-row.invariant.done i j (omega (arith, c.size-row-end.ensures.value)) (omega (arith, c.size-row-end.ensures.value))
