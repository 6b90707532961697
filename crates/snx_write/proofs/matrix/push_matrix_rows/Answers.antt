use Rattle.neq_stack.specs.Neqs.{neq_view}
use Rattle.snx_write.specs.Combined.{row_lines}
use Rattle.snx_write.proofs.MatrixLines.{more_of_each}
use Rattle.snx_write.proofs.matrix.push_matrix_rows.Goals as goal

pub loop-i-preserved : goal.loop-i-preserved
loop-i-preserved g c = more_of_each (row_lines (neq_view c.args.free.now)) c.loop-i.i c.args.out.now.items _ _ c.loop-i.invariant c.in_ok-push_matrix_row.ensures
