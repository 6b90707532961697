-- Sizes of intervals, of their sums and products, and of rounded quotients.
use Rattle.std.proofs.Common.{◌≡◌, ℕ, ℤ, pos, negsuc, neg_ℤ, ◌*ℤ◌, ◌*◌, ◌+◌, ◌/◌, ◌^◌, ◌≤◌, ◌<◌, arith, unsigned_abs}
use Rattle.std.proofs.lemmas.Int.{ints, unsigned_abs-mul}
use Rattle.std.proofs.Math.Nat.{mul-le-mul, mul-le-mul_left, mul-le-mul_right, le_of_mul-le-mul_left}
use Rattle.std.proofs.Math.Decide.{dec_lt}
use Rattle.whole_numbers.specs.Quotients.{floor_over, ceil_over}
use Rattle.whole_numbers.specs.Sum.{total_to}
use Rattle.whole_numbers.specs.Intervals.{Interval, Within, IsProductRange, size, interval_sub, interval_scale, interval_shift, sum_intervals}
use Rattle.whole_numbers.proofs.Sums.{abs-product, abs-sum_to, total_to_le}
use Rattle.whole_numbers.proofs.IntervalLaws.{two_pow_above}

pub product_le : (x a y b : ℕ) → x ≤ a → y ≤ b → x * y ≤ a * b
product_le x a y b h l = mul-le-mul h l

pub size_scale : (z : ℤ) (w : Interval) (a b : ℕ) → unsigned_abs z ≤ a → size w ≤ b → size (interval_scale z w) ≤ a * b
size_scale (pos k) w a b h l = let lo = abs-product (pos k) w.lo a b h (omega arith) in let hi = abs-product (pos k) w.hi a b h (omega arith) in omega arith
size_scale (negsuc k) w a b h l = let lo = abs-product (negsuc k) w.lo a b h (omega arith) in let hi = abs-product (negsuc k) w.hi a b h (omega arith) in omega arith

pub size_sub : (w v : Interval) (a b : ℕ) → size w ≤ a → size v ≤ b → size (interval_sub w v) ≤ a + b
size_sub w v a b h k = omega (arith, ints)

-- a sum is no greater than its intervals in sum
pub size_sum_by : (n : ℕ) (f : ℕ → Interval) → size (sum_intervals n f) ≤ total_to n (λ k. size (f k))
size_sum_by n f =
    let p = total_to_le n (λ k. unsigned_abs (f k).lo) (λ k. size (f k)) (λ k l. omega arith) in
    let q = total_to_le n (λ k. unsigned_abs (f k).hi) (λ k. size (f k)) (λ k l. omega arith) in
    omega (arith, abs-sum_to n (λ k. (f k).lo), abs-sum_to n (λ k. (f k).hi), p, q)

within_size : (w : Interval) (x : ℤ) → Within w x → unsigned_abs x ≤ size w
within_size w x h = let l = h.above in let r = h.below in omega (arith, ints, l, r)

end_size : (w v : Interval) (e : ℤ) → (x : ℤ) × (y : ℤ) × (Within w x × Within v y × (e ≡ x *ℤ y)) → unsigned_abs e ≤ size w * size v
end_size w v e h =
    let p = mul-le-mul (within_size w h.0 h.2.0) (within_size v h.1 h.2.1) in
    rw h.2.2 (omega (arith, p, unsigned_abs-mul h.0 h.1))

pub product_size : (w v p : Interval) → IsProductRange w v p → size p ≤ size w * size v
product_size w v p h =
    let l = end_size w v p.lo h.least in
    let r = end_size w v p.hi h.greatest in
    omega (arith, l, r)

-- a quotient by m of a number of size at most n * m
pub floor_small : (z : ℤ) (m n : ℕ) → 0 < m → unsigned_abs z ≤ n * m → unsigned_abs (floor_over z m) ≤ n
floor_small (pos a) m n some h = le_of_mul-le-mul_left {k = m} (omega arith) some
floor_small (negsuc a) m n some h =
    elim (dec_lt (a / m) n) [
      | yes l ↦ l
      | no l ↦ let t = mul-le-mul_right m (le_from_not n (a / m) l) in absurd (omega arith)
    ]
  where
    le_from_not : (n k : ℕ) → ¬ (k < n) → n ≤ k
    le_from_not n k l = omega arith

-- a quotient is no greater than what is divided
pub quotient_small : (z : ℤ) (m : ℕ) → 0 < m → unsigned_abs (floor_over z m) ≤ unsigned_abs z
quotient_small z m h = let t = mul-le-mul_left (unsigned_abs z) h in floor_small z m (unsigned_abs z) h (omega (arith, t))

pub ceil_small : (z : ℤ) (m n : ℕ) → 0 < m → unsigned_abs z ≤ n * m → unsigned_abs (ceil_over z m) ≤ n
ceil_small z m n some h = let f = floor_small (neg_ℤ z) m n some (omega (arith, ints)) in omega (arith, ints)

pub size_shift : (h : ℕ) (w : Interval) (n : ℕ) → size w ≤ n * 2 ^ h → size (interval_shift h w) ≤ n
size_shift h w n l = let f = floor_small w.lo (2 ^ h) n (two_pow_above h) (omega arith) in let c = ceil_small w.hi (2 ^ h) n (two_pow_above h) (omega arith) in omega arith
