use Rattle.std.proofs.Common.{arith, ◌+◌}
use Rattle.enclosure_check.specs.ErrorParts.{taken_interval}
use Rattle.enclosure_check.proofs.ErrorLaws.{row_small, step_fits}
use Rattle.enclosure_check.proofs.row_errors.taken.Goals as goal

pub plus-sum-requires : goal.plus-sum-requires
plus-sum-requires c =
    let low = c.args.low.now in
    let high = c.args.high.now in
    let y = c.args.y.now in
    let s = row_small low high y (c.loop-j.j + 1) c.requires (omega arith) in
    let m = step_fits c.loop-j.j (taken_interval low high y) c.loop-j.sum c.taken_interval.result c.loop-j.invariant c.taken_interval.ensures (omega (arith, s)) in
    record { lo_fits = m.0; hi_fits = m.1 }

pub returns-clause-bound : goal.returns-clause-bound
returns-clause-bound c = rw c.loop-j.invariant (row_small c.args.low.now c.args.high.now c.args.y.now c.loop-j.j c.requires (omega arith))
