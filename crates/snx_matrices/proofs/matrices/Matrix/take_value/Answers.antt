use Rattle.std.proofs.Common.{◌∙◌, Option, Some, ap}
use Rattle.std.specs.Option.{ok_or}
use Rattle.std.proofs.lemmas.Result.{err_from_is_err_and}
use Rattle.snx_rows.specs.declared.causes.Cause.TheVariants as causes
use Rattle.snx_matrices.specs.Elements.{WithValue}
use Rattle.snx_matrices.specs.Passing.{IsAdded}
use Rattle.snx_matrices.specs.declared.elements.Called.{Called}
use Rattle.snx_matrices.proofs.PassLaws.{outside, added, leaves_more}
use Rattle.snx_matrices.proofs.matrices.Matrix.take_value.Goals as goal

pub returns-in_err-within-clause-value : goal.returns-in_err-within-clause-value
returns-in_err-within-clause-value c =
    let from = err_from_is_err_and c.from_residual-in_err-within.result c.from_residual-in_err-within.ensures.1 in
    let column = c.in_ok-column.ensures.value ∙ ap (λ (o : Option Called). ok_or o causes.Index) c.called.ensures.row in
    rw (from.1, from.2) (outside c.args.self.now.triangle c.args.self.now.places c.args.elements.now.cells c.args.row c.args.index c.args.value c.in_ok-column.column column c.in_err-within.field-0.0 c.in_err-within.ensures)

pub returns-clause-value : goal.returns-clause-value
returns-clause-value c =
    let column = c.in_ok-column.ensures.value ∙ ap (λ (o : Option Called). ok_or o causes.Index) c.called.ensures.row in
    leaves_more c.add.new.self.cells (IsAdded c.args.elements.now.cells _) (WithValue c.args.self.now.triangle c.args.self.now.places c.args.row c.args.index c.args.elements.now.cells (Some c.args.value)) c.add.result
    (added c.args.self.now.triangle c.args.self.now.places c.args.elements.now.cells c.args.row c.args.index c.args.value c.in_ok-column.column column c.in_ok-within.within c.in_ok-within.ensures)
    c.add.ensures.cells
