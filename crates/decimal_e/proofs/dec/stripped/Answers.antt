use Rattle.std.proofs.Common.{◌<◌, ◌/◌, ◌+◌, arith}
use Rattle.decimal_e.proofs.Numbers.{few_zeros, strip_step}
use Rattle.decimal_e.proofs.dec.stripped.Goals as goal

pub loop-rest-preserved : goal.loop-rest-preserved
loop-rest-preserved c =
    let w = strip_step c.loop-rest.rest c.loop-rest.zeros c.args.size c.loop-rest.invariant.whole c.loop-rest-test.true in
    let s : 0 < c.loop-rest.rest / 10 = omega (arith, c.loop-rest.invariant.some, c.loop-rest-test.true) in
    record { whole = w; some = s; few = few_zeros (c.loop-rest.rest / 10) (c.loop-rest.zeros + 1) c.args.size s w (omega (arith, c.ranges.size)) }
