use Rattle.std.proofs.Common.{◌≡◌, ◌++◌, map}
use Rattle.std.specs.List.{range_with_len}
use Rattle.neq_stack.specs.Neqs.{neq_view}
use Rattle.snx_write.specs.Combined.{text_of, matrix_line}
use Rattle.snx_write.proofs.matrix.push_matrix_row.Given as goal

abbrev pub invariant-loop-k : goal.invariant-loop-k
invariant-loop-k g l = l.out.items ≡ l.fn.out.items ++ text_of (map (matrix_line (neq_view l.free) l.i) (range_with_len 0 l.k))
