use Rattle.bounds_report.proofs.DifferenceLaws.{room_more, differences_push}
use Rattle.bounds_report.proofs.differences.all_differences.Goals as goal

pub loop-row-preserved : goal.loop-row-preserved
loop-row-preserved c =
    let rows = c.args.rows.now in
    let items = rw c.if-is_err.ensures.negation at c.push.ensures.items in
    let left = room_more c.loop-row.row rows c.loop-row.room c.mag-room.result c.in-Some.z c.loop-row.invariant.room c.in-Some.ensures.0 c.in-Some.ensures.1 c.mag-room.ensures in
    record {
      done = rw items (differences_push c.loop-row.row rows c.loop-row.all.items c.in-Some.z _ c.loop-row.invariant.done left c.in-Some.ensures.1);
      room = left;
    }
