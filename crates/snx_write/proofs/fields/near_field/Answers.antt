use Rattle.std.proofs.Common.{FitsSigned, w32, arith}
use Rattle.std.specs.Int.{w128}
use Rattle.std.proofs.lemmas.Int.{ints, to_z-of_z}
use Rattle.snx_write.proofs.Printable.{printable_near}
use Rattle.snx_write.proofs.fields.near_field.Goals as goal

pub number_field-requires-clause-printable : goal.number_field-requires-clause-printable
number_field-requires-clause-printable c =
    let mant : FitsSigned w128 c.args.mant = c.ranges.mant in
    let exp : FitsSigned w32 c.args.exp = c.ranges.exp in
    simp to_z-of_z (printable_near c.args.digits c.args.mant c.args.exp (omega (arith, ints)) (omega (arith, ints)) (omega (arith, ints)))
