-- Scaling by powers of ten, rounded to whole numbers.
use Rattle.std.specs.Prelude.{ℕ, ℤ, pos, negsuc, suc, ◌*ℤ◌, ◌^◌}
use Rattle.whole_numbers.specs.Quotients.{floor_over, ceil_over}
use Rattle.whole_numbers.specs.Intervals.{Interval}

-- 10^e is the fraction ten_above e / ten_below e
abbrev pub ten_above : ℤ → ℕ
ten_above (pos k) = 10 ^ k
ten_above (negsuc k) = 1

abbrev pub ten_below : ℤ → ℕ
ten_below (pos k) = 1
ten_below (negsuc k) = 10 ^ suc k

-- z * 10^k rounded down
abbrev pub floor_scaled : ℤ → ℤ → ℤ
floor_scaled z (pos k) = z *ℤ pos (10 ^ k)
floor_scaled z (negsuc k) = floor_over z (10 ^ suc k)

-- z * 10^k rounded up
abbrev pub ceil_scaled : ℤ → ℤ → ℤ
ceil_scaled z (pos k) = z *ℤ pos (10 ^ k)
ceil_scaled z (negsuc k) = ceil_over z (10 ^ suc k)

-- the interval times 10^k, rounded outward
abbrev pub interval_scale10 : Interval → ℤ → Interval
interval_scale10 w k = record { lo = floor_scaled w.lo k; hi = ceil_scaled w.hi k }
