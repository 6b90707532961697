use Rattle.std.proofs.Common.{◌∙◌, arith}
use Rattle.information_tables.proofs.RowLaws.{place_next}
use Rattle.information_tables.proofs.weights.weigh_row.Goals as goal

pub loop-col-preserved : goal.loop-col-preserved
loop-col-preserved g c =
    let before = c.loop-col.invariant in
    let next = place_next c.args.weight.now c.args.row c.loop-col.col c.in-Some.interval c.get.result c.args.table.now c.loop-col.table c.set.new.self (omega arith) c.requires.row
    (record { fits = before.fits; done = before.done; left = before.left; others = before.others }) c.get.ensures c.in-Some.ensures.0 c.in-Some.ensures.1 c.set.ensures.here
    (λ i j li lj apart. c.set.ensures.others i j (omega (arith, before.size)) (omega (arith, before.size)) apart) in
    record { size = c.set.ensures.size ∙ before.size; whole = c.set.ensures.whole; fits = next.fits; done = next.done; left = next.left; others = next.others }
