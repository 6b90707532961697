-- Decimals times powers of ten, rounded to whole numbers.
use Rattle.std.specs.Prelude.{ℤ, pos, ◌+ℤ◌, ◌*ℤ◌}
use Rattle.whole_numbers.specs.Scaling.{floor_scaled, ceil_scaled, ten_above, ten_below}
use Rattle.whole_numbers.specs.Intervals.{Interval, Holds}
use Rattle.decimal_e.specs.Decimals.{Decimal}

-- the whole numbers next to d * 10^k, below it and above it
abbrev pub decimal_interval : Decimal → ℤ → Interval
decimal_interval d k = record { lo = floor_scaled d.mant (d.exp +ℤ k); hi = ceil_scaled d.mant (d.exp +ℤ k) }

-- the interval holds the exact value: mant * 10^(exp + k) as a fraction
abbrev pub HoldsValue : Type 0
HoldsValue = (d : Decimal) (k : ℤ) → Holds (decimal_interval d k) (d.mant *ℤ pos (ten_above (d.exp +ℤ k))) (ten_below (d.exp +ℤ k))
