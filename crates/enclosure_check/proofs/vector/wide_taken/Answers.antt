use Rattle.std.proofs.Common.{◌≡◌, ◌∙◌, arith, sym, ap, length, pos, ◌+◌, ◌*ℤ◌}
use Rattle.std.proofs.lemmas.Int.{ints}
use Rattle.whole_numbers.specs.Intervals.{midpoint}
use Rattle.enclosure_check.specs.Rows.{entry_between}
use Rattle.enclosure_check.specs.VectorParts.{taken_midpoint}
use Rattle.enclosure_check.proofs.FactorLaws.{NoneOutside, sum_before, sum_whole, product_zero}
use Rattle.enclosure_check.proofs.VectorLaws.{row_small, sum_step}
use Rattle.enclosure_check.proofs.vector.wide_taken.Goals as goal

pub loop-j-init : goal.loop-j-init
loop-j-init c =
    let y = c.args.y.now in
    let none : NoneOutside (taken_midpoint c.args.low.now c.args.high.now y.numbers.now) y.first y.end = λ k out. product_zero (midpoint (entry_between c.args.low.now c.args.high.now k)) _ (y.zeros k out) in
    sym (sum_before (taken_midpoint c.args.low.now c.args.high.now y.numbers.now) y.first y.end none)

pub overflow_add-sum : goal.overflow_add-sum
overflow_add-sum c =
    let low = c.args.low.now in
    let high = c.args.high.now in
    let y = c.args.y.now.numbers.now in
    let b = row_small low high y (c.loop-j.j + 1) c.requires (omega (arith, c.args.y.now.order, c.args.y.now.within)) in
    let s = sum_step c.loop-j.j (taken_midpoint low high y) _ c.taken_midpoint-sum.result c.loop-j.invariant c.taken_midpoint-sum.ensures (omega (arith, b)) in
    omega (arith, ints, s.0)

pub loop-j-preserved : goal.loop-j-preserved
loop-j-preserved c =
    let low = c.args.low.now in
    let high = c.args.high.now in
    let y = c.args.y.now.numbers.now in
    let b = row_small low high y (c.loop-j.j + 1) c.requires (omega (arith, c.args.y.now.order, c.args.y.now.within)) in
    let s = sum_step c.loop-j.j (taken_midpoint low high y) _ c.taken_midpoint-sum.result c.loop-j.invariant c.taken_midpoint-sum.ensures (omega (arith, b)) in
    omega (arith, ints, s.0, s.1)

pub returns : goal.returns
returns c =
    let y = c.args.y.now in
    let none : NoneOutside (taken_midpoint c.args.low.now c.args.high.now y.numbers.now) y.first y.end = λ k out. product_zero (midpoint (entry_between c.args.low.now c.args.high.now k)) _ (y.zeros k out) in
    sum_whole (length y.numbers.now) c.loop-j.j (taken_midpoint c.args.low.now c.args.high.now y.numbers.now) y.first y.end _ none y.within (omega (arith, y.order)) c.loop-j.invariant
