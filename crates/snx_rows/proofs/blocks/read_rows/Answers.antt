use Rattle.std.proofs.lemmas.Result.{err_from_is_err_and}
use Rattle.snx_lines.specs.Views.{line_view}
use Rattle.snx_rows.specs.Blocks.{IsNextRow}
use Rattle.snx_rows.proofs.Loops.{loop_more, loop_stops}
use Rattle.snx_rows.proofs.Sound.{sound_more}
use Rattle.snx_rows.proofs.blocks.read_rows.Goals as goal

pub returns-in_err-row-clause-rows : goal.returns-in_err-row-clause-rows
returns-in_err-row-clause-rows c =
    let from = err_from_is_err_and c.from_residual.result c.from_residual.ensures.1 in
    rw (from.1, from.2)
    (loop_stops (IsNextRow c.args.shape) line_view c.args.body.now c.loop-line.line-index _ c.loop-line.rows.items c.loop-line-test.true c.loop-line.invariant.0 c.deref.result.now c.deref.ensures.value c.in_err-row.field-0.0 c.in_err-row.ensures)

pub loop-line-preserved : goal.loop-line-preserved
loop-line-preserved c =
    rw c.in_ok-push.ensures.items (
      loop_more (IsNextRow c.args.shape) line_view c.args.body.now c.loop-line.line-index _ c.loop-line.rows.items c.loop-line-test.true c.loop-line.invariant.0 c.deref.result.now c.deref.ensures.value c.in_ok-row.row c.in_ok-row.ensures,
      sound_more c.args.shape c.loop-line.rows.items c.in_ok-row.row c.loop-line.invariant.1 c.deref.result.now c.deref.ensures.value _ _ c.in_ok-row.ensures,
    )
