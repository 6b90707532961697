use Rattle.std.proofs.Common.{codes}
use Rattle.std.specs.Option.{option_map}
use Rattle.control_doc.specs.Views.{datum_view}
use Rattle.neq_stack.specs.Neqs.{neq_view}
use Rattle.snx_write.specs.Combined.{vector_lines}
use Rattle.snx_write.proofs.Lines.{pushed_block}
use Rattle.snx_write.proofs.parameters.push_vector.Goals as goal

pub returns : goal.returns
returns g c =
    pushed_block (codes "SOLUTION/NORMAL_EQUATION_VECTOR") (vector_lines (option_map datum_view c.args.datum.now) (neq_view c.args.free.now)) c.args.out.now.items _ _ _ _
    c.in_ok-push_line.ensures c.in_ok-push_vector_lines.ensures c.push_line-2.ensures
