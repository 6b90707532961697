use Rattle.std.proofs.Common.{arith, rules, ap, length, FitsSigned, w64}
use Rattle.std.proofs.lemmas.Int.{to_z-of_z}
use Rattle.whole_numbers.specs.Intervals.{size}
use Rattle.whole_numbers.specs.Lists.{at}
use Rattle.enclosure_check.specs.Rows.{entry_between}
use Rattle.enclosure_check.proofs.DefectLaws.{size_products, rows_in_bounds, adds_product}
use Rattle.enclosure_check.proofs.row_defects.products.Goals as goal

pub plus-sum-requires : goal.plus-sum-requires
plus-sum-requires c =
    let r = c.args.r.now in
    let low = c.args.low.now in
    let high = c.args.high.now in
    let k = c.loop-k.k in
    let fr : FitsSigned w64 (at r k) = search rules in
    let fl : FitsSigned w64 (at low k) = search rules in
    let fh : FitsSigned w64 (at high k) = search rules in
    let term = simp to_z-of_z at c.scaled.ensures in
    let m = adds_product (length r) k (at r) (entry_between low high) c.loop-k.sum c.scaled.result (rows_in_bounds r low high c.requires) (omega arith) c.loop-k.invariant term in
    record { lo_fits = m.lo_fits; hi_fits = m.hi_fits }

pub returns-clause-small : goal.returns-clause-small
returns-clause-small c =
    let r = c.args.r.now in
    let low = c.args.low.now in
    let high = c.args.high.now in
    let s = size_products (length r) c.loop-k.k (at r) (entry_between low high) (rows_in_bounds r low high c.requires) (omega arith) in
    omega (arith, s, ap (λ w. size w) c.loop-k.invariant)
