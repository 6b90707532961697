use Rattle.std.proofs.Common.{arith}
use Rattle.enclosure_check.proofs.CertificateLaws.{greatest_moves, greatest_stays}
use Rattle.enclosure_check.proofs.certificates.first_greatest.Goals as goal
use Rattle.enclosure_check.proofs.certificates.first_greatest.Goals.{then-defects-row, else-defects-row}

pub loop-row-preserved : goal.loop-row-preserved
loop-row-preserved c =
    let xs = c.args.defects.now in
    let row = c.loop-row.row in
    elim c.if-defects-row.branch [
      | then-defects-row w ↦ rw (w.first-is, w.most-is) (greatest_moves xs row c.loop-row.most (omega arith) c.loop-row.invariant.greatest (omega arith))
      | else-defects-row w ↦ rw (w.first-is, w.most-is) (greatest_stays xs row c.loop-row.first c.loop-row.most c.loop-row.invariant (omega arith))
    ]
