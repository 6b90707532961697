use Rattle.std.proofs.Common.{◌≡◌, ◌∙◌, ◌+◌, arith, rules, sym, length, FitsSigned}
use Rattle.std.proofs.lemmas.Int.{ints, to_z-of_z}
use Rattle.std.specs.Int.{w64}
use Rattle.whole_numbers.specs.Intervals.{midpoint}
use Rattle.whole_numbers.specs.Lists.{at}
use Rattle.whole_numbers.proofs.ListLaws.{product_same}
use Rattle.enclosure_check.specs.Rows.{entry_between}
use Rattle.enclosure_check.specs.VectorParts.{taken_midpoint}
use Rattle.enclosure_check.proofs.FactorLaws.{NoneOutside, sum_before, sum_whole, product_zero}
use Rattle.enclosure_check.proofs.VectorLaws.{row_small, sum_step}
use Rattle.enclosure_check.proofs.vector.short_taken.Goals as goal

pub loop-j-init : goal.loop-j-init
loop-j-init c =
    let y = c.args.y.now in
    let none : NoneOutside (taken_midpoint c.args.low.now c.args.high.now y.numbers.now) y.first y.end = λ k out. product_zero (midpoint (entry_between c.args.low.now c.args.high.now k)) _ (y.zeros k out) in
    sym (sum_before (taken_midpoint c.args.low.now c.args.high.now y.numbers.now) y.first y.end none)

pub overflow_add-sum : goal.overflow_add-sum
overflow_add-sum c =
    let low = c.args.low.now in
    let high = c.args.high.now in
    let y = c.args.y.now.numbers.now in
    let j = c.loop-j.j in
    let short = c.as_slice-short.result.now in
    let same : at short j ≡ at y j = rw c.as_slice-short.ensures.value (c.args.y.now.same j (omega (arith, c.as_slice-short.ensures.len))) in
    let low_fits : FitsSigned w64 (at low j) = search rules in
    let high_fits : FitsSigned w64 (at high j) = search rules in
    let number_fits : FitsSigned w64 (at short j) = search rules in
    let middle_fits : FitsSigned w64 c.middle.result = search rules in
    let m = simp to_z-of_z at c.middle.ensures in
    let term : c.long_product-sum.result ≡ taken_midpoint low high y j = (simp to_z-of_z at c.long_product-sum.ensures) ∙ product_same c.middle.result (midpoint (entry_between low high j)) (at short j) (at y j) m same in
    let b = row_small low high y (c.loop-j.j + 1) c.requires.row (omega (arith, c.args.y.now.order, c.args.y.now.within)) in
    let s = sum_step c.loop-j.j (taken_midpoint low high y) _ c.long_product-sum.result c.loop-j.invariant term (omega (arith, b)) in
    omega (arith, ints, s.0)

pub loop-j-preserved : goal.loop-j-preserved
loop-j-preserved c =
    let low = c.args.low.now in
    let high = c.args.high.now in
    let y = c.args.y.now.numbers.now in
    let j = c.loop-j.j in
    let short = c.as_slice-short.result.now in
    let same : at short j ≡ at y j = rw c.as_slice-short.ensures.value (c.args.y.now.same j (omega (arith, c.as_slice-short.ensures.len))) in
    let low_fits : FitsSigned w64 (at low j) = search rules in
    let high_fits : FitsSigned w64 (at high j) = search rules in
    let number_fits : FitsSigned w64 (at short j) = search rules in
    let middle_fits : FitsSigned w64 c.middle.result = search rules in
    let m = simp to_z-of_z at c.middle.ensures in
    let term : c.long_product-sum.result ≡ taken_midpoint low high y j = (simp to_z-of_z at c.long_product-sum.ensures) ∙ product_same c.middle.result (midpoint (entry_between low high j)) (at short j) (at y j) m same in
    let b = row_small low high y (c.loop-j.j + 1) c.requires.row (omega (arith, c.args.y.now.order, c.args.y.now.within)) in
    let s = sum_step c.loop-j.j (taken_midpoint low high y) _ c.long_product-sum.result c.loop-j.invariant term (omega (arith, b)) in
    omega (arith, ints, s.0, s.1)

pub returns : goal.returns
returns c =
    let y = c.args.y.now in
    let none : NoneOutside (taken_midpoint c.args.low.now c.args.high.now y.numbers.now) y.first y.end = λ k out. product_zero (midpoint (entry_between c.args.low.now c.args.high.now k)) _ (y.zeros k out) in
    sum_whole (length y.numbers.now) c.loop-j.j (taken_midpoint c.args.low.now c.args.high.now y.numbers.now) y.first y.end _ none y.within (omega (arith, y.order)) c.loop-j.invariant
