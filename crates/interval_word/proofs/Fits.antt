-- What the calls of `Iv` need.
use Rattle.std.proofs.Common.{ℕ, ℤ, pos, negsuc, ◌*ℤ◌, ◌≤ℤ◌, ◌<ℤ◌, ◌≤◌, ◌*◌, ◌^◌, unsigned_abs, arith}
use Rattle.std.proofs.lemmas.Int.{ints, to_z-of_z}
use Rattle.std.proofs.Math.Nat.{mul-le-mul_left}
use Rattle.whole_numbers.specs.Intervals.{Interval, size}
use Rattle.whole_numbers.specs.Quotients.{floor_over, ceil_over}
use Rattle.whole_numbers.proofs.Products.{interval_mul_exact, interval_mul_ordered}
use Rattle.whole_numbers.proofs.IntervalLaws.{mul-mono_left, mul-anti_left, two_pow_above}
use Rattle.whole_numbers.proofs.Division.{floor_le_ceil}
use Rattle.whole_numbers.proofs.Scaled.{floor_scaled_le_ceil}

pub lo_product_small : (k : ℤ) (w : Interval) → unsigned_abs k * size w ≤ 2 ^ 126 → unsigned_abs k * unsigned_abs w.lo ≤ 2 ^ 126
lo_product_small k w h = let l : unsigned_abs w.lo ≤ size w = omega arith in omega (arith, mul-le-mul_left (unsigned_abs k) l)

pub hi_product_small : (k : ℤ) (w : Interval) → unsigned_abs k * size w ≤ 2 ^ 126 → unsigned_abs k * unsigned_abs w.hi ≤ 2 ^ 126
hi_product_small k w h = let l : unsigned_abs w.hi ≤ size w = omega arith in omega (arith, mul-le-mul_left (unsigned_abs k) l)

pub scale_up : (k a b : ℤ) → pos 0 ≤ℤ k → a ≤ℤ b → (k *ℤ a) ≤ℤ (k *ℤ b)
scale_up (pos k) a b p h = mul-mono_left a b k h
scale_up (negsuc k) a b p h = absurd (omega (arith, ints))

pub scale_down : (k a b : ℤ) → k <ℤ pos 0 → a ≤ℤ b → (k *ℤ b) ≤ℤ (k *ℤ a)
scale_down (pos k) a b p h = absurd (omega (arith, ints))
scale_down (negsuc k) a b p h = mul-anti_left a b k h

pub ruleset scale_rules = (to_z-of_z, lo_product_small, hi_product_small, scale_up, scale_down)

pub ruleset mul_rules = (to_z-of_z, interval_mul_exact, interval_mul_ordered)

pub shift_ordered : (a b : ℤ) (h : ℕ) → a ≤ℤ b → floor_over a (2 ^ h) ≤ℤ ceil_over b (2 ^ h)
shift_ordered a b h l = floor_le_ceil a b (2 ^ h) (two_pow_above h) l

pub ruleset shift_rules = (to_z-of_z, shift_ordered)

pub ruleset scale10_rules = (to_z-of_z, floor_scaled_le_ceil)
