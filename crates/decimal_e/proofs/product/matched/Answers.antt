use Rattle.std.proofs.Common.{◌<◌, ◌/◌, ◌+◌, arith}
use Rattle.decimal_e.proofs.Factors.{halved, fifth, few_twos}
use Rattle.decimal_e.proofs.product.matched.Goals as goal

pub loop-two-preserved : goal.loop-two-preserved
loop-two-preserved c =
    let w = c.loop-two in
    let f = halved w.two w.pairs c.args.twos w.invariant.first c.loop-two-test.true in
    let s = fifth w.five w.pairs c.args.fives w.invariant.second c.if-five-eq0.true in
    let t : 0 < w.two / 2 = omega (arith, w.invariant.some.0, c.loop-two-test.true) in
    let v : 0 < w.five / 5 = omega (arith, w.invariant.some.1, c.if-five-eq0.true) in
    record { first = f; second = s; some = (t, v); few = few_twos (w.two / 2) (w.pairs + 1) c.args.twos t f c.requires.twos.1 }
