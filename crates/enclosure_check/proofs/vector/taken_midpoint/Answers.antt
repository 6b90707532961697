use Rattle.std.proofs.Common.{rules, FitsSigned}
use Rattle.std.specs.Int.{w64, w128}
use Rattle.std.proofs.lemmas.Int.{to_z-of_z}
use Rattle.whole_numbers.specs.Lists.{at}
use Rattle.enclosure_check.proofs.VectorLaws.{taken_small}
use Rattle.enclosure_check.proofs.vector.taken_midpoint.Goals as goal

pub short_product-requires : goal.short_product-requires
short_product-requires c =
    let low = c.args.low.now in
    let high = c.args.high.now in
    let y = c.args.y.now in
    let fits : FitsSigned w128 (at y c.args.j) = search rules in
    let wide : FitsSigned w128 c.from.result = search rules in
    let narrow : FitsSigned w64 c.middle.result = search rules in
    let low_fits : FitsSigned w64 (at low c.args.j) = search rules in
    let high_fits : FitsSigned w64 (at high c.args.j) = search rules in
    let e = simp to_z-of_z at c.from.ensures in
    let m = simp to_z-of_z at c.middle.ensures in
    rw (to_z-of_z w128 c.from.result wide, to_z-of_z w128 (at y c.args.j) fits, e, m) (taken_small low high y c.args.j c.requires.row c.requires.within)
