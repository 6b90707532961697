-- How large the intervals of values are: one of at most 10^12 times 10^20 is at most 10^32.
use Rattle.std.proofs.Common.{pos, ◌^◌, ◌≤◌, arith}
use Rattle.std.proofs.lemmas.Int.{ints}
use Rattle.whole_numbers.specs.Intervals.{size}
use Rattle.decimal_e.specs.Decimals.{Decimal}
use Rattle.decimal_e.specs.Fractions.{IsAtMost}
use Rattle.decimal_e.specs.Scales.{decimal_interval}
use Rattle.decimal_e.proofs.ValueSizes as sizes

pub value_small : (d : Decimal) → IsAtMost (10 ^ 12) d → size (decimal_interval d (pos 20)) ≤ 10 ^ 32
value_small d h = sizes.value_small d (pos 20) h (omega (arith, ints)) (omega (arith, ints))

pub value_fits : (d : Decimal) → IsAtMost (10 ^ 12) d → size (decimal_interval d (pos 20)) ≤ 10 ^ 37
value_fits d h = let s = value_small d h in omega (arith, s)
