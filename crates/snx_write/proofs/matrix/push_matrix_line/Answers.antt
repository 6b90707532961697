use Rattle.std.proofs.Common.{◌∷◌, [], arith}
use Rattle.neq_stack.specs.Neqs.{neq_view}
use Rattle.snx_write.specs.Combined.{line, matrix_line}
use Rattle.snx_write.proofs.Lines.{same_line}
use Rattle.snx_write.proofs.MatrixLines.{three_elements}
use Rattle.snx_write.proofs.matrix.push_matrix_line.Goals as goal

pub returns : goal.returns
returns g c =
    let row = c.index_field-row.result in
    let column = c.index_field-column.result in
    let one = c.element_field-one.result in
    let two = c.element_field-two.result in
    let three = c.element_field-three.result in
    let neq = neq_view c.args.free.now in
    same_line c.args.out.now.items c.push_line-2.new.out.items (line ([] ∷ row ∷ column ∷ one ∷ two ∷ three ∷ [])) (matrix_line neq c.args.i c.args.k) c.push_line-2.result
    (three_elements neq c.args.i c.args.k row column one two three c.index_field-row.ensures c.index_field-column.ensures c.element_field-one.ensures c.element_field-two.ensures c.element_field-three.ensures (omega arith))
    c.push_line-2.ensures
