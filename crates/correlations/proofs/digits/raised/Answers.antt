use Rattle.std.proofs.Common.{◌*◌, ◌+◌, arith}
use Rattle.correlations.proofs.DigitLaws.{one_more, zeros_few}
use Rattle.correlations.proofs.digits.raised.Goals as goal

pub loop-mantissa-preserved : goal.loop-mantissa-preserved
loop-mantissa-preserved c =
    let whole = one_more c.args.number c.loop-mantissa.zeros c.loop-mantissa.mantissa c.loop-mantissa.invariant.whole in
    let few = c.loop-mantissa-test.true in
    record {
      whole = whole;
      few = omega arith;
      small = zeros_few c.args.number (c.loop-mantissa.zeros + 1) (c.loop-mantissa.mantissa * 10) c.requires.some whole (omega arith);
      some = omega (arith, c.loop-mantissa.invariant.some);
    }
