use Rattle.std.proofs.Common.{◌≤ℤ◌, ◌+ℤ◌, pos, unsigned_abs, arith}
use Rattle.std.proofs.lemmas.Int.{ints}
use Rattle.snx_write.proofs.Tiny.{below_one}
use Rattle.snx_write.proofs.parameters.is_tiny.Goals as goal

pub returns-else-power-lt0 : goal.returns-else-power-lt0
returns-else-power-lt0 c =
    let value = c.args.value.now in
    let above : pos 0 ≤ℤ (value.exp +ℤ pos 99) = omega (arith, ints) in
    let e = below_one (unsigned_abs value.mant) (value.exp +ℤ pos 99) above in
    grind (arith, ints)
