use Rattle.std.proofs.Common.{◌∙◌, List, ℕ, Option, ap}
use Rattle.std.specs.Option.{ok_or}
use Rattle.std.proofs.lemmas.Result.{err_from_is_err_and}
use Rattle.snx_rows.specs.declared.causes.Cause.TheVariants as causes
use Rattle.snx_matrices.specs.Elements.{called_by}
use Rattle.snx_matrices.specs.declared.elements.Called.{Called}
use Rattle.snx_matrices.proofs.PassLaws.{no_column}
use Rattle.snx_matrices.proofs.places.Places.pair_on.Goals as goal

pub returns-in_err-column-clause-pair : goal.returns-in_err-column-clause-pair
returns-in_err-column-clause-pair c =
    let rows = c.args.self.now in
    let from = err_from_is_err_and c.from_residual-in_err-column.result c.from_residual-in_err-column.ensures.1 in
    let row = c.in_ok-row.ensures.value ∙ ap (λ (o : Option Called). ok_or o causes.Index) (c.called_by.ensures.row ∙ ap (λ (t : List ℕ). called_by rows t) c.field.ensures) in
    let column = c.in_err-column.ensures.value ∙ ap (λ (o : Option Called). ok_or o causes.Index) (c.called_by-2.ensures.row ∙ ap (λ (t : List ℕ). called_by rows t) c.field-2.ensures) in
    rw (from.1, from.2) (no_column rows c.args.line.now.text.now c.in_ok-row.row c.in_err-column.field-0.0 row column)
