use Rattle.std.proofs.Common.{BTreeMap, String, Global}
use Rattle.std.proofs.lemmas.Result.{err_from_is_err_and}
use Rattle.toml.specs.View.{table_view}
use Rattle.toml.specs.declared.value.Value.{Value}
use Rattle.control_doc.specs.Control.{table_in}
use Rattle.control_doc.specs.Views.{control_view}
use Rattle.control_doc.proofs.TextSteps.{read_stops, read_goes}
use Rattle.control_doc.proofs.reading.control_in.Goals as goal

pub returns-in_err-table : goal.returns-in_err-table
returns-in_err-table c =
    let from = err_from_is_err_and c.from_residual.result c.from_residual.ensures.1 in
    rw (from.1, from.2) (read_stops (λ (table : BTreeMap (String Global) Value). table_view table) control_view (table_in c.args.text.now) c.in_err-table.field-0.0 c.in_err-table.ensures)

pub returns : goal.returns
returns c = read_goes (λ (table : BTreeMap (String Global) Value). table_view table) control_view (table_in c.args.text.now) c.in_ok-table.table c.control_of.result c.in_ok-table.ensures c.control_of.ensures
