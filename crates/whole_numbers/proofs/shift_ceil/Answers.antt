use Rattle.std.proofs.Common.{arith}
use Rattle.std.proofs.lemmas.Int.{ints, to_z-of_z}
use Rattle.whole_numbers.proofs.Division.{two_pow_small}
use Rattle.whole_numbers.proofs.shift_ceil.Goals as goal

pub ceil_div-requires : goal.ceil_div-requires
ceil_div-requires c = let p = two_pow_small c.args.h c.requires in omega (arith, ints)

pub returns : goal.returns
returns c = let p = two_pow_small c.args.h c.requires in grind (arith, to_z-of_z)
