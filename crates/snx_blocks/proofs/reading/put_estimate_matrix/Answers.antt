use Rattle.std.proofs.Common.{Some}
use Rattle.std.specs.Option.{option_copied}
use Rattle.std.proofs.lemmas.Result.{err_from_is_err_and}
use Rattle.snx_lines.specs.Views.{block_view}
use Rattle.snx_matrices.specs.Elements.{solution_heading}
use Rattle.snx_blocks.specs.Views.{matrix_view, doc_view}
use Rattle.snx_blocks.proofs.Titles.{seen_alike, matrix_gives, matrix_refuses}
use Rattle.snx_blocks.proofs.reading.put_estimate_matrix.Goals as goal

pub returns-in_err-matrix-clause-reads : goal.returns-in_err-matrix-clause-reads
returns-in_err-matrix-clause-reads c =
    let doc = doc_view c.args.doc.now in
    let block = block_view c.args.block.now in
    let known = seen_alike matrix_view c.args.doc.now.estimate_matrix c.is_some-stood_before.result c.is_some-stood_before.ensures in
    let from = err_from_is_err_and c.from_residual.result c.from_residual.ensures.1 in
    rw (from.1, from.2)
    (matrix_refuses doc.estimate_matrix doc.estimates (solution_heading block.title.text) block (λ matrix. record doc { estimate_matrix = Some matrix }) (option_copied c.as_deref.result) c.solution_heading-heading.result c.as_deref.ensures.value c.solution_heading-heading.ensures matrix_view doc_view c.in_err-matrix.field-0.0 (c.in_err-matrix.ensures.matrix doc.estimate_matrix known))

pub returns-clause-reads : goal.returns-clause-reads
returns-clause-reads c =
    let doc = doc_view c.args.doc.now in
    let block = block_view c.args.block.now in
    let known = seen_alike matrix_view c.args.doc.now.estimate_matrix c.is_some-stood_before.result c.is_some-stood_before.ensures in
    matrix_gives doc.estimate_matrix doc.estimates (solution_heading block.title.text) block (λ matrix. record doc { estimate_matrix = Some matrix }) (option_copied c.as_deref.result) c.solution_heading-heading.result c.as_deref.ensures.value c.solution_heading-heading.ensures (matrix_view c.in_ok-matrix.matrix) (c.in_ok-matrix.ensures.matrix doc.estimate_matrix known)
