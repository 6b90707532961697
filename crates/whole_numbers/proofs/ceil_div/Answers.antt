use Rattle.std.proofs.Common.{arith, FitsSigned, unsigned_abs}
use Rattle.std.specs.Int.{w128}
use Rattle.std.proofs.lemmas.Int.{to_z-of_z, ints}
use Rattle.whole_numbers.proofs.Division.{ceil_exact, ceil_more, ceil_over_fits}
use Rattle.whole_numbers.proofs.ceil_div.Goals as goal

pub returns-then-rem_euclid-eq0 : goal.returns-then-rem_euclid-eq0
returns-then-rem_euclid-eq0 c = grind (arith, to_z-of_z, ceil_exact)

pub returns-else-rem_euclid-eq0 : goal.returns-else-rem_euclid-eq0
returns-else-rem_euclid-eq0 c =
    let fx : FitsSigned w128 c.args.x = c.ranges.x in
    let fd : FitsSigned w128 c.args.den = c.ranges.den in
    let q = simp to_z-of_z at c.div_euclid-below.ensures in
    let r = simp to_z-of_z at c.rem_euclid.ensures.value in
    let e = ceil_more c.args.x c.args.den c.div_euclid-below.result c.rem_euclid.result c.requires q r (omega (arith, ints)) in
    let f = ceil_over_fits w128 c.args.x (unsigned_abs c.args.den) fx in
    omega (arith, ints)
