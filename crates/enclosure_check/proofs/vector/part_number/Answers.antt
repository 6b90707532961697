use Rattle.std.proofs.Common.{rules, FitsSigned}
use Rattle.std.specs.Int.{w64, w128}
use Rattle.std.proofs.lemmas.Int.{to_z-of_z}
use Rattle.whole_numbers.specs.Lists.{at}
use Rattle.enclosure_check.proofs.VectorLaws.{part_small}
use Rattle.enclosure_check.proofs.vector.part_number.Goals as goal

pub short_product-requires : goal.short_product-requires
short_product-requires c =
    let r = c.args.row.now in
    let vs = c.args.numbers.now in
    let wide : FitsSigned w128 c.from.result = search rules in
    let fits : FitsSigned w128 (at vs c.args.k) = search rules in
    let narrow : FitsSigned w64 (at r c.args.k) = search rules in
    let e = simp to_z-of_z at c.from.ensures in
    rw (to_z-of_z w128 c.from.result wide, to_z-of_z w128 (at vs c.args.k) fits, e) (part_small r vs c.args.k c.requires.sizes c.requires.within)
