-- Whole numbers over the square of a decimal, times powers of ten, rounded outward.
--
-- Weights are inverse squares of standard deviations (Brockmann 1997, section 2.1). How the quotient is taken within 128 bits is this
-- program's own.
use Rattle.std.specs.Prelude.{◌≡◌, ◌≢◌, ◌≤◌, ℕ, ℤ, pos, negsuc, ◌*ℤ◌, ◌-ℤ◌, suc, ◌*◌, ◌-◌, ◌^◌, unsigned_abs}
use Rattle.stated_order.specs.Steps.{IsOne, HasOne}
use Rattle.whole_numbers.specs.Intervals.{Interval, Holds}
use Rattle.whole_numbers.specs.Quotients.{floor_over, ceil_over}
use Rattle.whole_numbers.specs.Scaling.{interval_scale10, ten_above, ten_below}
use Rattle.decimal_e.specs.Decimals.{Decimal}

-- the whole numbers next to x / m, below it and above it
abbrev pub quotient : ℤ → ℕ → Interval
quotient x m = record { lo = floor_over x m; hi = ceil_over x m }

-- tens is the greatest number up to u with h * 10^tens at most 10^37 in size
pub record AreTensFor (h : ℤ) (u tens : ℕ) : Type 0 where
  pub few : tens ≤ u
  pub within : unsigned_abs h * 10 ^ tens ≤ 10 ^ 37
  pub most : (more : ℕ) → more ≤ u → unsigned_abs h * 10 ^ more ≤ 10 ^ 37 → more ≤ tens

-- The interval of h / d times 10^z. A power below 1 is divided by together with d. A power above it multiplies h before the division as
-- far as that stays within 10^37, and the quotient's ends after it.
abbrev pub IsTimesTens : ℤ → ℕ → ℤ → Interval → Type 0
IsTimesTens h d (negsuc k) w = w ≡ quotient h (d * 10 ^ suc k)
IsTimesTens h d (pos u) w = (tens : ℕ) × AreTensFor h u tens × (w ≡ interval_scale10 (quotient (h *ℤ pos (10 ^ tens)) d) (pos (u - tens)))

-- h * 10^z / s^2 is h over the square of the mantissa of s, times this power of ten
abbrev pub square : Decimal → ℕ
square s = unsigned_abs s.mant * unsigned_abs s.mant

abbrev pub power_left : Decimal → ℤ → ℤ
power_left s z = z -ℤ s.exp -ℤ s.exp

-- the interval of h * 10^z / s^2
abbrev pub IsOverSquare : ℤ → Decimal → ℤ → Interval → Type 0
IsOverSquare h s z w = IsTimesTens h (square s) (power_left s z) w

-- ---- what is promised of it
-- there is one such interval at most
abbrev pub OneOverSquare : Type 0
OneOverSquare = (h : ℤ) (s : Decimal) (z : ℤ) → IsOne (IsOverSquare h s z)

-- there is one for each h up to 10^37 in size
abbrev pub OverSquareExists : Type 0
OverSquareExists = (h : ℤ) (s : Decimal) (z : ℤ) → unsigned_abs h ≤ 10 ^ 37 → HasOne (IsOverSquare h s z)

-- it holds the exact value
abbrev pub OverSquareHolds : Type 0
OverSquareHolds = (h : ℤ) (s : Decimal) (z : ℤ) (w : Interval)
    → s.mant ≢ pos 0 → IsOverSquare h s z w → Holds w (h *ℤ pos (ten_above (power_left s z))) (square s * ten_below (power_left s z))
