use Rattle.std.proofs.lemmas.Result.{err_from_is_err_and}
use Rattle.snx_lines.specs.Views.{line_view}
use Rattle.snx_rows.proofs.Chain.{no_name, no_unit, no_value, no_size, no_deviation, whole_row}
use Rattle.snx_rows.proofs.rows.row_on.Goals as goal

pub returns-in_err-id : goal.returns-in_err-id
returns-in_err-id c =
    let from = err_from_is_err_and c.from_residual-in_err-id.result c.from_residual-in_err-id.ensures.1 in
    rw (from.1, from.2) (no_name c.args.shape (line_view c.args.line.now) c.in_ok-index.index c.in_ok-index.ensures c.in_err-id.field-0.0 c.in_err-id.ensures)

pub returns-in_err-unit : goal.returns-in_err-unit
returns-in_err-unit c =
    let from = err_from_is_err_and c.from_residual-in_err-unit.result c.from_residual-in_err-unit.ensures.1 in
    rw (from.1, from.2) (no_unit c.args.shape (line_view c.args.line.now) c.in_ok-index.index c.in_ok-index.ensures c.in_ok-id.id c.in_ok-id.ensures c.in_err-unit.field-0.0 c.in_err-unit.ensures)

pub returns-in_err-value : goal.returns-in_err-value
returns-in_err-value c =
    let from = err_from_is_err_and c.from_residual-in_err-value.result c.from_residual-in_err-value.ensures.1 in
    rw (from.1, from.2) (no_value c.args.shape (line_view c.args.line.now) c.in_ok-index.index c.in_ok-index.ensures c.in_ok-id.id c.in_ok-id.ensures c.in_ok-unit.unit c.in_ok-unit.ensures c.in_err-value.field-0.0 c.in_err-value.ensures)

pub returns-in_err-value-2 : goal.returns-in_err-value-2
returns-in_err-value-2 c =
    let from = err_from_is_err_and c.from_residual-in_err-value-2.result c.from_residual-in_err-value-2.ensures.1 in
    rw (from.1, from.2) (no_size c.args.shape (line_view c.args.line.now) c.in_ok-index.index c.in_ok-index.ensures c.in_ok-id.id c.in_ok-id.ensures c.in_ok-unit.unit c.in_ok-unit.ensures c.in_ok-value.value c.in_ok-value.ensures c.in_err-value-2.field-0.0 c.in_err-value-2.ensures)

pub returns-in_err-dev : goal.returns-in_err-dev
returns-in_err-dev c =
    let from = err_from_is_err_and c.from_residual-in_err-dev.result c.from_residual-in_err-dev.ensures.1 in
    rw (from.1, from.2) (no_deviation c.args.shape (line_view c.args.line.now) c.in_ok-index.index c.in_ok-index.ensures c.in_ok-id.id c.in_ok-id.ensures c.in_ok-unit.unit c.in_ok-unit.ensures c.in_ok-value.value c.in_ok-value.ensures c.in_ok-value-2.value c.in_ok-value-2.ensures c.in_err-dev.field-0.0 c.in_err-dev.ensures)

pub returns : goal.returns
returns c = whole_row c.args.shape (line_view c.args.line.now) c.in_ok-index.index c.in_ok-index.ensures c.in_ok-id.id c.in_ok-id.ensures c.in_ok-unit.unit c.in_ok-unit.ensures c.in_ok-value.value c.in_ok-value.ensures c.in_ok-value-2.value c.in_ok-value-2.ensures c.in_ok-dev.dev c.in_ok-dev.ensures
