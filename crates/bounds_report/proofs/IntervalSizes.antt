-- How large differences of intervals are.
use Rattle.std.proofs.Common.{◌+◌, ◌^◌, ◌≤◌, ◌<◌, FitsSigned, arith}
use Rattle.std.proofs.Math.IntN.{◌-ℤ◌}
use Rattle.std.specs.Int.{w128}
use Rattle.std.proofs.lemmas.Int.{ints, to_z-of_z}
use Rattle.whole_numbers.specs.Intervals.{Interval, size, interval_sub}

pub low_fits : (w v : Interval) → size w + size v < 2 ^ 127 → FitsSigned w128 (w.lo -ℤ v.hi)
low_fits w v h = omega (arith, ints)

pub high_fits : (w v : Interval) → size w + size v < 2 ^ 127 → FitsSigned w128 (w.hi -ℤ v.lo)
high_fits w v h = omega (arith, ints)

pub difference_size : (w v : Interval) → size (interval_sub w v) ≤ size w + size v
difference_size w v = omega (arith, ints)

pub ruleset difference_rules = (to_z-of_z, low_fits, high_fits, difference_size)
