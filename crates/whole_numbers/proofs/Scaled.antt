-- What an interval scaled by a power of ten holds.
use Rattle.std.proofs.Common.{ℕ, suc, ℤ, pos, negsuc, ◌*ℤ◌, ◌≤ℤ◌, ◌*◌, ◌^◌}
use Rattle.whole_numbers.specs.Scaling.{floor_scaled, ceil_scaled, interval_scale10}
use Rattle.whole_numbers.specs.Intervals.{Interval, Holds}
use Rattle.whole_numbers.proofs.Division.{floor_le_ceil}
use Rattle.whole_numbers.proofs.Powers.{ten_pow_above}
use Rattle.whole_numbers.proofs.Ring.{*ℤ_right_comm, mul_mono_pos}
use Rattle.whole_numbers.proofs.IntervalLaws.{holds_over}

-- the ends stay in order
pub floor_scaled_le_ceil : (a b k : ℤ) → a ≤ℤ b → floor_scaled a k ≤ℤ ceil_scaled b k
floor_scaled_le_ceil a b (pos k) h = mul_mono_pos a b (10 ^ k) h
floor_scaled_le_ceil a b (negsuc k) h = floor_le_ceil a b (10 ^ suc k) (ten_pow_above (suc k)) h

pub holds_raised : (k : ℕ) (w : Interval) (x : ℤ) (q : ℕ) → Holds w x q → Holds (interval_scale10 w (pos k)) (x *ℤ pos (10 ^ k)) q
holds_raised k w x q h = record {
  above = rw (*ℤ_right_comm w.lo (pos (10 ^ k)) (pos q)) (mul_mono_pos _ _ (10 ^ k) h.above);
  below = rw (*ℤ_right_comm w.hi (pos (10 ^ k)) (pos q)) (mul_mono_pos _ _ (10 ^ k) h.below);
}

pub holds_lowered : (k : ℕ) (w : Interval) (x : ℤ) (q : ℕ) → Holds w x q → Holds (interval_scale10 w (negsuc k)) x (10 ^ suc k * q)
holds_lowered k w x q h = holds_over (10 ^ suc k) w x q (ten_pow_above (suc k)) h

-- x * 10^k / q, as a fraction
abbrev pub scaled_over : ℤ → ℤ → ℤ
scaled_over x (pos k) = x *ℤ pos (10 ^ k)
scaled_over x (negsuc k) = x

abbrev pub scaled_under : ℕ → ℤ → ℕ
scaled_under q (pos k) = q
scaled_under q (negsuc k) = 10 ^ suc k * q

-- a fraction that an interval holds, times 10^k, is held by the interval scaled
pub holds_scale10 : (k : ℤ) (w : Interval) (x : ℤ) (q : ℕ) → Holds w x q → Holds (interval_scale10 w k) (scaled_over x k) (scaled_under q k)
holds_scale10 (pos k) w x q h = holds_raised k w x q h
holds_scale10 (negsuc k) w x q h = holds_lowered k w x q h
