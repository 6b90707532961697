use Rattle.std.proofs.Common.{map, FitsSigned, w32, rules}
use Rattle.std.proofs.lemmas.Int.{to_z-of_z}
use Rattle.std.specs.List.{zip}
use Rattle.std.specs.Option.{option_map}
use Rattle.control_doc.specs.Views.{datum_view}
use Rattle.snx_write.specs.Combined.{vector_numbers}
use Rattle.snx_write.proofs.ParameterLines.{one_more, mapped, zipped}
use Rattle.snx_write.proofs.parameters.push_vector_lines.Goals as goal

pub loop-k-preserved : goal.loop-k-preserved
loop-k-preserved g c =
    let right = c.args.free.now.right.items in
    let scales = c.args.free.now.scales.items in
    let here = zipped right scales c.loop-k.k c.right_of-right.result c.scale_of-scale.result (rw c.deref-in-loop-k.ensures.value at c.right_of-right.ensures) (rw c.deref-in-loop-k-2.ensures.value at c.scale_of-scale.ensures.value) in
    let fits : FitsSigned w32 c.scale_of-scale.result = search rules in
    let value = simp to_z-of_z at c.vector_field-value.ensures in
    one_more (option_map datum_view c.args.datum.now) c.loop-k.k c.args.free.now.names c.args.free.now.units.items (map vector_numbers (zip right scales)) c.at-id.result.now c.unit_of-unit.result.now _ _ _ _
    c.at-id.ensures (rw c.deref.ensures.value at c.unit_of-unit.ensures) (mapped vector_numbers (zip right scales) c.loop-k.k _ _ here value)
    c.in_ok-push_parameter.ensures c.loop-k.invariant
