-- Quotients worked by hand.
use Rattle.std.specs.Prelude.{◌<◌, ℤ, pos, negsuc, ◌*◌, ◌+◌, ◌^◌, ◌/◌}
use Rattle.whole_numbers.specs.Intervals.{Interval, point_interval, size}
use Rattle.decimal_e.specs.Decimals.{Decimal}
use Rattle.inverse_squares.specs.Quotients.{IsOverSquare}

-- the decimal mant * 10^exp
abbrev pub decimal : ℤ → ℤ → Decimal
decimal mant exp = record { mant = mant; exp = exp }

pub record AreWorked : Type 0 where
  -- 16000000000000 over the square of 0.001, times 10^4
  pub exact : IsOverSquare (pos 16000000000000) (decimal (pos 1) (negsuc 2)) (pos 4) (point_interval (pos 160000000000000000000000))
  -- a ninth, and minus a ninth
  pub ninth : IsOverSquare (pos 1) (decimal (pos 3) (pos 0)) (pos 0) (record { lo = pos 0; hi = pos 1 })
  pub below : IsOverSquare (negsuc 0) (decimal (pos 3) (pos 0)) (pos 0) (record { lo = negsuc 0; hi = pos 0 })
  -- 10^24 over the square of 10^-9, times 10^18, is 10^60
  pub great : (w : Interval) → IsOverSquare (pos (10 ^ 24)) (decimal (pos 1) (negsuc 8)) (pos 18) w → 10 ^ 37 < size w
  -- 1 over the square of 0.0000123457, times 10^18, is 10^38 / 15241630849: 10^37 goes into the division
  pub split : IsOverSquare (pos 1) (decimal (pos 123457) (negsuc 9)) (pos 18) (record { lo = pos (10 * (10 ^ 37 / 15241630849)); hi = pos (10 * (10 ^ 37 / 15241630849) + 10) })
