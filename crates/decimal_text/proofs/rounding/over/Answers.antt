use Rattle.std.proofs.Common.{arith}
use Rattle.std.proofs.lemmas.Int.{ints}
use Rattle.whole_numbers.proofs.Powers.{ten_pow_above}
use Rattle.decimal_text.proofs.rounding.over.Goals as goal

pub nonzero_div-result : goal.nonzero_div-result
nonzero_div-result c = omega (arith, ints, ten_pow_above c.args.k)
