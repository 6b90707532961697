use Rattle.std.proofs.Common.{arith}
use Rattle.std.proofs.lemmas.Int.{ints}
use Rattle.whole_numbers.proofs.Powers.{ceil_far_up, ceil_far_down, ten_pow_above}
use Rattle.whole_numbers.proofs.scaling.lowered_ceil.Goals as goal

pub ceil_div-requires : goal.ceil_div-requires
ceil_div-requires c = let t = ten_pow_above c.args.k in omega (arith, ints)

pub returns-then-z-gt0 : goal.returns-then-z-gt0
returns-then-z-gt0 c = ceil_far_up c.args.z c.args.k c.ranges.z (omega arith) (omega (arith, ints))

pub returns-else-z-gt0 : goal.returns-else-z-gt0
returns-else-z-gt0 c = ceil_far_down c.args.z c.args.k c.ranges.z (omega arith) (omega (arith, ints))
