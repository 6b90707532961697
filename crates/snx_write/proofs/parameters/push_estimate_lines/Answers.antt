use Rattle.std.proofs.Common.{◌≡◌, ◌∷◌, [], map, refl}
use Rattle.std.specs.Option.{option_map}
use Rattle.control_doc.specs.Views.{datum_view}
use Rattle.snx_write.specs.Combined.{estimate_numbers}
use Rattle.snx_write.proofs.ParameterLines.{one_more, mapped}
use Rattle.snx_write.proofs.parameters.push_estimate_lines.Goals as goal

pub loop-k-preserved : goal.loop-k-preserved
loop-k-preserved g c =
    let rows = c.args.rows.now in
    let both : c.estimate_field-value.result ∷ c.row_deviation-deviation.result ∷ [] ≡ estimate_numbers c.printed_of-row.result.now = rw (c.estimate_field-value.ensures, c.row_deviation-deviation.ensures) refl in
    one_more (option_map datum_view c.args.datum.now) c.loop-k.k c.args.free.now.names c.args.free.now.units.items (map estimate_numbers rows) c.at-id.result.now c.unit_of-unit.result.now _ _ _ _
    c.at-id.ensures (rw c.deref.ensures.value at c.unit_of-unit.ensures) (mapped estimate_numbers rows c.loop-k.k _ _ c.printed_of-row.ensures.value both) c.in_ok-push_parameter.ensures c.loop-k.invariant
