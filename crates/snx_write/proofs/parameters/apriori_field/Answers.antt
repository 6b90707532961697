use Rattle.std.proofs.Common.{◌∙◌, sym, FitsSigned, w32, rules}
use Rattle.std.specs.Int.{w128}
use Rattle.std.proofs.lemmas.Int.{to_z-of_z}
use Rattle.snx_write.proofs.Printable.{printable_value}
use Rattle.snx_write.proofs.parameters.apriori_field.Goals as goal

pub number_field-requires-clause-printable : goal.number_field-requires-clause-printable
number_field-requires-clause-printable c =
    let mant : FitsSigned w128 c.mant.result = search rules in
    let exp : FitsSigned w32 c.exp.result = search rules in
    let shown = printable_value c.args.value.now c.mant.ensures.bounded c.requires (sym c.is_tiny.ensures ∙ c.if-is_tiny.false) in
    simp to_z-of_z (rw (c.mant.ensures.value, c.exp.ensures.value) shown)
