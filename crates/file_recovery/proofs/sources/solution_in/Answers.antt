use Rattle.std.proofs.Common.{ap}
use Rattle.std.specs.Option.{option_map}
use Rattle.std.proofs.lemmas.Result.{err_from_is_err_and}
use Rattle.snx_blocks.specs.Views.{doc_view, matrix_view}
use Rattle.recover_solution.specs.Views.{constraint_view}
use Rattle.file_recovery.proofs.SourceLaws.{no_report, solution_there}
use Rattle.file_recovery.proofs.sources.solution_in.Goals as goal

pub returns-in_err-constraint-clause-blocks : goal.returns-in_err-constraint-clause-blocks
returns-in_err-constraint-clause-blocks c =
    let p = err_from_is_err_and c.from_residual.result c.from_residual.ensures.1 in
    rw (p.1, p.2)
    (no_report c.args.choice (doc_view c.args.doc.now) c.args.apriori.now c.in-Some.estimates.items (matrix_view c.in-Some-estimate_matrix.matrix) (ap (option_map (λ rows. rows.items)) c.in-Some.is)
    (ap (option_map matrix_view) c.in-Some-estimate_matrix.is) _ c.in_err-constraint.ensures)

pub returns-clause-blocks : goal.returns-clause-blocks
returns-clause-blocks c =
    rw (c.deref.ensures.value, c.deref-2.ensures.value)
    (solution_there c.args.choice (doc_view c.args.doc.now) c.args.apriori.now c.in-Some.estimates.items (matrix_view c.in-Some-estimate_matrix.matrix) (ap (option_map (λ rows. rows.items)) c.in-Some.is)
    (ap (option_map matrix_view) c.in-Some-estimate_matrix.is) (constraint_view c.in_ok-constraint.constraint) c.in_ok-constraint.ensures)
