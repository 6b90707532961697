-- Intervals of whole numbers, and the fractions that they hold.
use Rattle.std.proofs.Common.{◌≡◌, ℕ, zero, suc, pos, negsuc, ℤ, ◌+ℤ◌, ◌*ℤ◌, neg_ℤ, ◌≤ℤ◌, ◌<ℤ◌, arith, ◌≤◌, ◌<◌, ◌*◌, ◌^◌, unsigned_abs, ap, refl}
use Rattle.std.proofs.Math.IntN.{◌-ℤ◌}
use Rattle.std.proofs.lemmas.Int.{ints, unsigned_abs-mul}
use Rattle.std.proofs.lemmas.Grind.{div_ceil_times}
use Rattle.std.proofs.Math.Nat.{mul-le-mul_left, mul-le-mul_right}
use borrow.Author.Differences.{le_out}
use Rattle.whole_numbers.specs.Sum.{sum_to}
use Rattle.whole_numbers.specs.Intervals.{Interval, Holds, point_interval, interval_add, interval_sub, interval_neg, interval_scale, sum_intervals, size, interval_shift}
use Rattle.whole_numbers.specs.Quotients.{floor_over, ceil_over, up_over}
use Rattle.whole_numbers.proofs.Ring.{ring, *ℤ_assoc, mul_mono_pos}
use Rattle.whole_numbers.proofs.Sums.{sum_to_same}

pub two_pow_above : (h : ℕ) → 0 < 2 ^ h
two_pow_above zero = omega arith
two_pow_above (suc h) = omega (arith, two_pow_above h)

pub up_over_le : (a m : ℕ) → 0 < m → a ≤ up_over a m * m
up_over_le a m h = (div_ceil_times a m h).0

pub floor_over_le : (z : ℤ) (m : ℕ) → 0 < m → (floor_over z m *ℤ pos m) ≤ℤ z
floor_over_le (pos a) m h = omega (arith, ints)
floor_over_le (negsuc a) m h = omega (arith, ints)

pub lt-floor_over : (z : ℤ) (m : ℕ) → 0 < m → z <ℤ (floor_over z m *ℤ pos m +ℤ pos m)
lt-floor_over (pos a) m h = omega (arith, ints)
lt-floor_over (negsuc a) m h = omega (arith, ints)

pub le-ceil_over : (z : ℤ) (m : ℕ) → 0 < m → z ≤ℤ (ceil_over z m *ℤ pos m)
le-ceil_over z m h = let f = floor_over_le (neg_ℤ z) m h in simp ring (omega (arith, ints))

-- ---- order and products
pub mul-mono_left : (a b : ℤ) (k : ℕ) → a ≤ℤ b → (pos k *ℤ a) ≤ℤ (pos k *ℤ b)
mul-mono_left a b k h = let p = mul-le-mul_left k (le_out a b h) in omega (arith, ints)

pub mul-anti_left : (a b : ℤ) (k : ℕ) → a ≤ℤ b → (negsuc k *ℤ b) ≤ℤ (negsuc k *ℤ a)
mul-anti_left a b k h = let p = mul-le-mul_left (suc k) (le_out a b h) in omega (arith, ints)

pub holds_add : (w v : Interval) (x y : ℤ) (q : ℕ) → Holds w x q → Holds v y q → Holds (interval_add w v) (x +ℤ y) q
holds_add w v x y q h k = record { above = simp ring (omega (arith, ints)); below = simp ring (omega (arith, ints)) }

pub holds_sub : (w v : Interval) (x y : ℤ) (q : ℕ) → Holds w x q → Holds v y q → Holds (interval_sub w v) (x -ℤ y) q
holds_sub w v x y q h k = record { above = simp ring (omega (arith, ints)); below = simp ring (omega (arith, ints)) }

pub holds_neg : (w : Interval) (x : ℤ) (q : ℕ) → Holds w x q → Holds (interval_neg w) (neg_ℤ x) q
holds_neg w x q h = record { above = simp ring (omega (arith, ints)); below = simp ring (omega (arith, ints)) }

pub holds_point : (k : ℤ) (q : ℕ) → Holds (point_interval k) (k *ℤ pos q) q
holds_point k q = record { above = omega (arith, ints); below = omega (arith, ints) }

pub holds_scale : (k : ℤ) (w : Interval) (x : ℤ) (q : ℕ) → Holds w x q → Holds (interval_scale k w) (k *ℤ x) q
holds_scale (pos k) w x q h = record {
  above = rw (*ℤ_assoc (pos k) w.lo (pos q)) (mul-mono_left (w.lo *ℤ pos q) x k h.above);
  below = rw (*ℤ_assoc (pos k) w.hi (pos q)) (mul-mono_left x (w.hi *ℤ pos q) k h.below);
}
holds_scale (negsuc k) w x q h = record {
  above = rw (*ℤ_assoc (negsuc k) w.hi (pos q)) (mul-anti_left x (w.hi *ℤ pos q) k h.below);
  below = rw (*ℤ_assoc (negsuc k) w.lo (pos q)) (mul-anti_left (w.lo *ℤ pos q) x k h.above);
}

pub holds_sum : (n : ℕ) (f : ℕ → Interval) (x : ℕ → ℤ) (q : ℕ) → ((k : ℕ) → k < n → Holds (f k) (x k) q) → Holds (sum_intervals n f) (sum_to n x) q
holds_sum zero f x q h = record { above = omega (arith, ints); below = omega (arith, ints) }
holds_sum (suc n) f x q h = holds_add (sum_intervals n f) (f n) (sum_to n x) (x n) q (holds_sum n f x q (λ k l. h k (omega arith))) (h n (omega arith))

-- sums of the same intervals are the same
pub sum_intervals_same : (n : ℕ) (f g : ℕ → Interval) → ((k : ℕ) → k < n → f k ≡ g k) → sum_intervals n f ≡ sum_intervals n g
sum_intervals_same n f g h =
    let lo = sum_to_same n (λ k. (f k).lo) (λ k. (g k).lo) (λ k l. ap (λ w. w.lo) (h k l)) in
    let hi = sum_to_same n (λ k. (f k).hi) (λ k. (g k).hi) (λ k l. ap (λ w. w.hi) (h k l)) in
    rw (lo, hi) refl

pub holds_size : (w : Interval) (x : ℤ) (q : ℕ) → Holds w x q → unsigned_abs x ≤ size w * q
holds_size w x q h =
    let l : unsigned_abs w.lo ≤ size w = omega arith in
    let r : unsigned_abs w.hi ≤ size w = omega arith in
    let lq = mul-le-mul_right q l in
    let rq = mul-le-mul_right q r in
    omega (arith, ints, unsigned_abs-mul w.lo (pos q), unsigned_abs-mul w.hi (pos q), lq, rq)

-- dividing both ends changes the denominator alone
pub holds_over : (m : ℕ) (w : Interval) (x : ℤ) (q : ℕ) → 0 < m → Holds w x q → Holds (record { lo = floor_over w.lo m; hi = ceil_over w.hi m }) x (m * q)
holds_over m w x q p k =
    let l = mul_mono_pos _ _ q (floor_over_le w.lo m p) in
    let r = mul_mono_pos _ _ q (le-ceil_over w.hi m p) in
    record {
      above = omega (arith, ints, l, *ℤ_assoc (floor_over w.lo m) (pos m) (pos q));
      below = omega (arith, ints, r, *ℤ_assoc (ceil_over w.hi m) (pos m) (pos q));
    }

pub holds_shift : (h : ℕ) (w : Interval) (x : ℤ) (q : ℕ) → Holds w x q → Holds (interval_shift h w) x (2 ^ h * q)
holds_shift h w x q k = holds_over (2 ^ h) w x q (two_pow_above h) k
