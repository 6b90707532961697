use Rattle.std.proofs.lemmas.Result.{err_from_is_err_and}
use Rattle.toml.specs.View.{table_view}
use Rattle.control_doc.proofs.DatumSteps.{no_sites, no_translation, no_rotation, no_scale, no_sigma, whole_datum}
use Rattle.control_doc.proofs.datum.datum_of.Goals as goal

pub returns-in_err-sites : goal.returns-in_err-sites
returns-in_err-sites c =
    let from = err_from_is_err_and c.from_residual.result c.from_residual.ensures.1 in
    rw (from.1, from.2) (no_sites (table_view c.args.table.now) c.in_err-sites.field-0.0 c.in_err-sites.ensures)

pub returns-in_err-translation : goal.returns-in_err-translation
returns-in_err-translation c =
    let from = err_from_is_err_and c.from_residual-in_err-translation.result c.from_residual-in_err-translation.ensures.1 in
    rw (from.1, from.2) (no_translation (table_view c.args.table.now) c.in_ok-sites.sites c.in_ok-sites.ensures c.in_err-translation.field-0.0 c.in_err-translation.ensures)

pub returns-in_err-rotation : goal.returns-in_err-rotation
returns-in_err-rotation c =
    let from = err_from_is_err_and c.from_residual-in_err-rotation.result c.from_residual-in_err-rotation.ensures.1 in
    rw (from.1, from.2) (no_rotation (table_view c.args.table.now) c.in_ok-sites.sites c.in_ok-sites.ensures c.in_ok-translation.translation c.in_ok-translation.ensures c.in_err-rotation.field-0.0 c.in_err-rotation.ensures)

pub returns-in_err-scale : goal.returns-in_err-scale
returns-in_err-scale c =
    let from = err_from_is_err_and c.from_residual-in_err-scale.result c.from_residual-in_err-scale.ensures.1 in
    rw (from.1, from.2) (no_scale (table_view c.args.table.now) c.in_ok-sites.sites c.in_ok-sites.ensures c.in_ok-translation.translation c.in_ok-translation.ensures c.in_ok-rotation.rotation c.in_ok-rotation.ensures c.in_err-scale.field-0.0 c.in_err-scale.ensures)

pub returns-in_err-datum : goal.returns-in_err-datum
returns-in_err-datum c =
    let from = err_from_is_err_and c.from_residual-in_err-datum.result c.from_residual-in_err-datum.ensures.1 in
    rw (from.1, from.2) (no_sigma (table_view c.args.table.now) c.in_ok-sites.sites c.in_ok-sites.ensures c.in_ok-translation.translation c.in_ok-translation.ensures c.in_ok-rotation.rotation c.in_ok-rotation.ensures c.in_ok-scale.scale c.in_ok-scale.ensures c.in_err-datum.field-0.0 c.in_err-datum.ensures)

pub returns : goal.returns
returns c = whole_datum (table_view c.args.table.now) c.in_ok-sites.sites c.in_ok-sites.ensures c.in_ok-translation.translation c.in_ok-translation.ensures c.in_ok-rotation.rotation c.in_ok-rotation.ensures c.in_ok-scale.scale c.in_ok-scale.ensures c.in_ok-datum.datum c.in_ok-datum.ensures
