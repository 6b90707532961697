use Rattle.std.proofs.lemmas.Result.{err_from_is_err_and}
use Rattle.snx_lines.specs.Views.{line_view}
use Rattle.snx_rows.proofs.Loops.{loop_more, loop_stops}
use Rattle.snx_sites.specs.Sites.{IsEpochRow}
use Rattle.std.proofs.Common.{refl}
use Rattle.snx_sites.proofs.epochs.read_epochs.Goals as goal

pub returns-in_err-row : goal.returns-in_err-row
returns-in_err-row c =
    let from = err_from_is_err_and c.from_residual.result c.from_residual.ensures.1 in
    rw (from.1, from.2)
    (loop_stops (λ before. IsEpochRow) line_view c.args.body.now c.loop-line.line-index _ c.loop-line.rows.items c.loop-line-test.true c.loop-line.invariant c.loop-line.rows.items refl c.in_err-row.field-0.0 c.in_err-row.ensures)

pub loop-line-preserved : goal.loop-line-preserved
loop-line-preserved c =
    rw c.in_ok-push.ensures.items
    (loop_more (λ before. IsEpochRow) line_view c.args.body.now c.loop-line.line-index _ c.loop-line.rows.items c.loop-line-test.true c.loop-line.invariant c.loop-line.rows.items refl c.in_ok-row.row c.in_ok-row.ensures)
