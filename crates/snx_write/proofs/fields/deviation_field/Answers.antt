use Rattle.std.proofs.Common.{◌<◌, ◌^◌, pos, FitsSigned, w32, lit≤, arith}
use Rattle.std.proofs.lemmas.Int.{ints, to_z-of_z, to_z_pos}
use Rattle.snx_write.specs.Numbers.{IsPrintable}
use Rattle.snx_write.proofs.Printable.{printable_within}
use Rattle.snx_write.proofs.fields.deviation_field.Goals as goal

pub print_e-requires-clause-exponent : goal.print_e-requires-clause-exponent
print_e-requires-clause-exponent c =
    let exp : FitsSigned w32 c.args.exp = c.ranges.exp in
    let size : c.args.size < 2 ^ 127 = omega arith in
    let shown : IsPrintable 6 (pos c.args.size) c.args.exp = printable_within 6 20 (pos c.args.size) c.args.exp (lit≤ tt) (omega (arith, ints)) (omega (arith, ints)) (omega (arith, ints)) in
    simp (to_z-of_z, to_z_pos) shown.exponent
