use Rattle.neq_stack.specs.Neqs.{neq_view}
use Rattle.snx_write.specs.Combined.{matrix_line}
use Rattle.snx_write.proofs.MatrixLines.{one_more_line}
use Rattle.snx_write.proofs.matrix.push_matrix_row.Goals as goal

pub loop-k-preserved : goal.loop-k-preserved
loop-k-preserved g c = one_more_line (matrix_line (neq_view c.args.free.now) c.args.i) c.loop-k.k c.args.out.now.items _ _ c.loop-k.invariant c.in_ok-push_matrix_line.ensures
