use Rattle.std.proofs.Common.{◌<◌, ◌∙◌, arith}
use Rattle.recover_solution.proofs.LessLaws.{rows_next, less_each}
use Rattle.recover_solution.proofs.moving.take_from.Goals as goal

pub loop-row-preserved : goal.loop-row-preserved
loop-row-preserved g c =
    let before = c.loop-row.invariant in
    let after = c.less_row.ensures in
    let within : c.loop-row.row < c.args.table.now.size = omega (arith, c.size-row-end.ensures.value) in
    let next = rows_next c.args.removed.now c.args.table.now c.loop-row.table c.less_row.new.table c.loop-row.row within before.done before.left after.here
    (λ i j l low apart. after.others i j (omega (arith, before.size)) low apart) in
    record { size = after.size ∙ before.size; whole = after.whole; done = next.done; left = next.left }

pub returns-clause-each : goal.returns-clause-each
returns-clause-each g c = less_each c.args.removed.now c.args.table.now c.loop-row.table (λ i j l low. c.loop-row.invariant.done i j (omega (arith, c.size-row-end.ensures.value)) low)
