use Rattle.std.proofs.Common.{arith}
use Rattle.std.proofs.lemmas.Int.{ints, to_z-of_z}
use Rattle.whole_numbers.proofs.Powers.{raised_far, raised_more, raised_most, ten_pow_above}
use Rattle.whole_numbers.proofs.scaling.raised.Goals as goal

pub returns-then-k-gt37 : goal.returns-then-k-gt37
returns-then-k-gt37 c = raised_far c.args.z c.args.k (omega (arith, ints)) (omega arith)

pub nonzero_div-unsigned_abs : goal.nonzero_div-unsigned_abs
nonzero_div-unsigned_abs c = let t = ten_pow_above c.args.k in omega (arith, ints)

pub returns-then-unsigned_abs : goal.returns-then-unsigned_abs
returns-then-unsigned_abs c = grind (arith, to_z-of_z, raised_more)

pub returns : goal.returns
returns c = grind (arith, to_z-of_z, raised_most)
