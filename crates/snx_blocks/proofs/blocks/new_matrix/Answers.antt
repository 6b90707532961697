use Rattle.std.proofs.Common.{List, Vec, Global, Err, map, ap, ◌∙◌, sym, subst}
use Rattle.std.specs.Option.{option_copied}
use Rattle.std.proofs.lemmas.Result.{err_from_is_err_and}
use Rattle.snx_lines.specs.Views.{line_view, block_view}
use Rattle.snx_rows.specs.Blocks.{Answers}
use Rattle.snx_matrices.specs.declared.elements.Cell.{Cell}
use Rattle.snx_blocks.specs.Documents.{IsMatrix}
use Rattle.snx_blocks.specs.Views.{matrix_view}
use Rattle.snx_blocks.proofs.Titles.{rowless_title, wordless_title, lines_give, lines_refuse}
use Rattle.snx_blocks.proofs.blocks.new_matrix.Goals as goal

cells_of : Vec Cell Global → List Cell
cells_of cells = cells.items

pub returns-in_err-cells-in-false-Some-Some-clause-matrix : goal.returns-in_err-cells-in-false-Some-Some-clause-matrix
returns-in_err-cells-in-false-Some-Some-clause-matrix c =
    λ before known.
    let case = c.in-false-Some-Some in
    let from = err_from_is_err_and c.from_residual.result c.from_residual.ensures.1 in
    rw (from.1, from.2)
    (lines_refuse before (option_copied c.args.rows) c.args.heading (block_view c.args.block.now) (known ∙ case.is-0) case.rows.now (ap option_copied case.is-1) case.heading case.is-2 cells_of (map line_view c.deref.result.now) c.in_err-cells-in-false-Some-Some.field-0.0 (ap (map line_view) c.deref.ensures.value) c.in_err-cells-in-false-Some-Some.ensures.elements)

pub returns-in-false-None-default-clause-matrix : goal.returns-in-false-None-default-clause-matrix
returns-in-false-None-default-clause-matrix c =
    λ before known.
    let case = c.in-false-None-default in
    subst (λ e. Answers matrix_view (IsMatrix before (option_copied c.args.rows) c.args.heading (block_view c.args.block.now)) (Err e)) (sym c.refusal-in-false-None-default.ensures)
    (rowless_title before (option_copied c.args.rows) c.args.heading (block_view c.args.block.now) (known ∙ case.is-0) (ap option_copied case.is-1))

pub returns-in-false-Some-None-clause-matrix : goal.returns-in-false-Some-None-clause-matrix
returns-in-false-Some-None-clause-matrix c =
    λ before known.
    let case = c.in-false-Some-None in
    subst (λ e. Answers matrix_view (IsMatrix before (option_copied c.args.rows) c.args.heading (block_view c.args.block.now)) (Err e)) (sym c.refusal-in-false-Some-None.ensures)
    (wordless_title before (option_copied c.args.rows) c.args.heading (block_view c.args.block.now) (known ∙ case.is-0) case.field-0-1.now (ap option_copied case.is-1) case.is-2)

pub returns-in_ok-cells-in-false-Some-Some-clause-matrix : goal.returns-in_ok-cells-in-false-Some-Some-clause-matrix
returns-in_ok-cells-in-false-Some-Some-clause-matrix c =
    λ before known.
    let case = c.in-false-Some-Some in
    let h = rw c.deref.ensures.value at c.in_ok-cells-in-false-Some-Some.ensures.elements in
    lines_give before (option_copied c.args.rows) c.args.heading (block_view c.args.block.now) (known ∙ case.is-0) case.rows.now (ap option_copied case.is-1) case.heading case.is-2 c.in_ok-cells-in-false-Some-Some.cells.items h
