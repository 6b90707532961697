use Rattle.std.proofs.Common.{codes}
use Rattle.neq_stack.specs.Neqs.{neq_view}
use Rattle.snx_write.specs.Combined.{matrix_lines}
use Rattle.snx_write.proofs.Lines.{pushed_block}
use Rattle.snx_write.proofs.matrix.push_matrix.Goals as goal

pub returns : goal.returns
returns g c =
    pushed_block (codes "SOLUTION/NORMAL_EQUATION_MATRIX L") (matrix_lines (neq_view c.args.free.now)) c.args.out.now.items _ _ _ _
    c.in_ok-push_line.ensures c.in_ok-push_matrix_rows.ensures c.push_line-2.ensures
