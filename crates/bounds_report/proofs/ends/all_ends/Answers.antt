use Rattle.bounds_report.proofs.EndLaws.{ends_push}
use Rattle.bounds_report.proofs.ends.all_ends.Goals as goal

pub loop-row-preserved : goal.loop-row-preserved
loop-row-preserved c =
    let items = rw c.if-is_err.ensures.negation at c.push.ensures.items in
    rw items (ends_push c.loop-row.row c.args.rows.now c.loop-row.all.items c.in-Some.ends c.loop-row.invariant c.in-Some.ensures.0 c.in-Some.ensures.1)
