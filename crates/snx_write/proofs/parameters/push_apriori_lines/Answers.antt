use Rattle.std.proofs.Common.{◌≡◌, ◌∷◌, [], map, refl}
use Rattle.std.specs.Option.{option_map}
use Rattle.control_doc.specs.Views.{datum_view}
use Rattle.snx_write.specs.Combined.{apriori_numbers}
use Rattle.snx_write.proofs.ParameterLines.{one_more, mapped}
use Rattle.snx_write.proofs.parameters.push_apriori_lines.Goals as goal

pub loop-k-preserved : goal.loop-k-preserved
loop-k-preserved g c =
    let values = c.args.free.now.apriori.items in
    let both : c.apriori_field-value.result ∷ c.deviation_field-deviation.result ∷ [] ≡ apriori_numbers c.apriori_of.result.now = rw (c.apriori_field-value.ensures, c.deviation_field-deviation.ensures) refl in
    one_more (option_map datum_view c.args.datum.now) c.loop-k.k c.args.free.now.names c.args.free.now.units.items (map apriori_numbers values) c.at-id.result.now c.unit_of-unit.result.now _ _ _ _
    c.at-id.ensures (rw c.deref.ensures.value at c.unit_of-unit.ensures) (mapped apriori_numbers values c.loop-k.k _ _ (rw c.deref-in-loop-k.ensures.value at c.apriori_of.ensures.value) both)
    c.in_ok-push_parameter.ensures c.loop-k.invariant
