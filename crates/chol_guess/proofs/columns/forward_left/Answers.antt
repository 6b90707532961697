use Rattle.std.proofs.Common.{◌+◌, arith}
use Rattle.std.proofs.lemmas.Int.{ints}
use Rattle.whole_numbers.proofs.Division.{two_pow_small}
use Rattle.whole_numbers.specs.Squares.{square_at}
use Rattle.whole_numbers.specs.Lists.{at}
use Rattle.chol_guess.proofs.Steps.{earlier_is, left_here, left_past}
use Rattle.chol_guess.proofs.columns.forward_left.Goals as goal

pub returns-then-i-c : goal.returns-then-i-c
returns-then-i-c c =
    let f = square_at c.args.f.now in
    let u = c.args.u.now in
    let sum = earlier_is c.args.f.now.size c.args.i f c.args.g c.args.c u c.row.result.now c.wide_fixed_products-earlier.result c.requires c.row.ensures.len c.row.ensures.numbers c.wide_fixed_products-earlier.ensures.value in
    let power = two_pow_small (c.args.g + 10) (omega (arith, c.requires.scale)) in
    omega (arith, ints, power, left_here f c.args.g c.args.c c.args.i (at u) c.wide_fixed_products-earlier.result c.if-i-c.true sum)

pub returns-else-i-c : goal.returns-else-i-c
returns-else-i-c c =
    let f = square_at c.args.f.now in
    let u = c.args.u.now in
    let sum = earlier_is c.args.f.now.size c.args.i f c.args.g c.args.c u c.row.result.now c.wide_fixed_products-earlier.result c.requires c.row.ensures.len c.row.ensures.numbers c.wide_fixed_products-earlier.ensures.value in
    omega (arith, ints, left_past f c.args.g c.args.c c.args.i (at u) c.wide_fixed_products-earlier.result c.if-i-c.false sum)
