use Rattle.std.proofs.Common.{◌≡◌, ◌++◌}
use Rattle.std.specs.List.{flat_map, range_with_len}
use Rattle.neq_stack.specs.Neqs.{neq_view}
use Rattle.snx_write.specs.Combined.{text_of, row_lines}
use Rattle.snx_write.proofs.matrix.push_matrix_rows.Given as goal

abbrev pub invariant-loop-i : goal.invariant-loop-i
invariant-loop-i g l = l.out.items ≡ l.fn.out.items ++ text_of (flat_map (row_lines (neq_view l.free)) (range_with_len 0 l.i))
