use Rattle.std.proofs.Common.{map}
use Rattle.std.proofs.lemmas.Result.{err_from_is_err_and}
use Rattle.toml.specs.View.{table_view}
use Rattle.control_doc.specs.Views.{plan_view}
use Rattle.control_doc.proofs.FileSteps.{no_name, no_weight, no_group, no_form, no_held, whole_plan}
use Rattle.control_doc.proofs.files.plan_in.Goals as goal

pub returns-in_err-name : goal.returns-in_err-name
returns-in_err-name c =
    let from = err_from_is_err_and c.from_residual.result c.from_residual.ensures.1 in
    rw (from.1, from.2) (no_name (map plan_view c.args.before.now) (record { path = c.args.path.now; members = table_view c.args.table.now }) c.in_err-name.field-0.0 c.in_err-name.ensures)

pub returns-in_err-weight : goal.returns-in_err-weight
returns-in_err-weight c =
    let from = err_from_is_err_and c.from_residual-in_err-weight.result c.from_residual-in_err-weight.ensures.1 in
    rw (from.1, from.2) (no_weight (map plan_view c.args.before.now) (record { path = c.args.path.now; members = table_view c.args.table.now }) c.in_ok-name.name c.in_ok-name.ensures c.in_err-weight.field-0.0 c.in_err-weight.ensures)

pub returns-in_err-group : goal.returns-in_err-group
returns-in_err-group c =
    let from = err_from_is_err_and c.from_residual-in_err-group.result c.from_residual-in_err-group.ensures.1 in
    rw (from.1, from.2) (no_group (map plan_view c.args.before.now) (record { path = c.args.path.now; members = table_view c.args.table.now }) c.in_ok-name.name c.in_ok-name.ensures c.in_ok-weight.weight c.in_ok-weight.ensures c.in_err-group.field-0.0 c.in_err-group.ensures)

pub returns-in_err-form : goal.returns-in_err-form
returns-in_err-form c =
    let from = err_from_is_err_and c.from_residual-in_err-form.result c.from_residual-in_err-form.ensures.1 in
    rw (from.1, from.2) (no_form (map plan_view c.args.before.now) (record { path = c.args.path.now; members = table_view c.args.table.now }) c.in_ok-name.name c.in_ok-name.ensures c.in_ok-weight.weight c.in_ok-weight.ensures c.in_ok-group.group c.in_ok-group.ensures c.in_err-form.field-0.0 c.in_err-form.ensures)

pub returns-in_err-held : goal.returns-in_err-held
returns-in_err-held c =
    let from = err_from_is_err_and c.from_residual-in_err-held.result c.from_residual-in_err-held.ensures.1 in
    rw (from.1, from.2) (no_held (map plan_view c.args.before.now) (record { path = c.args.path.now; members = table_view c.args.table.now }) c.in_ok-name.name c.in_ok-name.ensures c.in_ok-weight.weight c.in_ok-weight.ensures c.in_ok-group.group c.in_ok-group.ensures c.in_ok-form.form c.in_ok-form.ensures c.in_err-held.field-0.0 c.in_err-held.ensures)

pub returns : goal.returns
returns c = whole_plan (map plan_view c.args.before.now) (record { path = c.args.path.now; members = table_view c.args.table.now }) c.in_ok-name.name c.in_ok-name.ensures c.in_ok-weight.weight c.in_ok-weight.ensures c.in_ok-group.group c.in_ok-group.ensures c.in_ok-form.form c.in_ok-form.ensures c.in_ok-held.held c.in_ok-held.ensures
