use Rattle.std.proofs.Common.{arith}
use Rattle.std.proofs.lemmas.Int.{ints}
use Rattle.whole_numbers.proofs.Powers.{floor_far_down, floor_far_up, ten_pow_above}
use Rattle.whole_numbers.proofs.scaling.lowered_floor.Goals as goal

pub floor_div-requires : goal.floor_div-requires
floor_div-requires c = let t = ten_pow_above c.args.k in omega (arith, ints)

pub returns-then-z-lt0 : goal.returns-then-z-lt0
returns-then-z-lt0 c = floor_far_down c.args.z c.args.k c.ranges.z (omega arith) (omega (arith, ints))

pub returns-else-z-lt0 : goal.returns-else-z-lt0
returns-else-z-lt0 c = floor_far_up c.args.z c.args.k c.ranges.z (omega arith) (omega (arith, ints))
