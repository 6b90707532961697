-- Intervals times the digits of a weight: what fits.
use Rattle.std.proofs.Common.{◌≡◌, ◌≤◌, ◌<◌, ◌*◌, ◌+◌, ◌/◌, ◌^◌, ◌∙◌, ℕ, ℤ, pos, negsuc, ◌*ℤ◌, ◌<ℤ◌, Option, Some, None, SomeIff, max, unsigned_abs, sym, ap, subst, arith}
use Rattle.std.proofs.Math.Decide.{dec_lt}
use Rattle.std.proofs.Math.Nat.{mul-le-mul_right, mul-le-mul_left}
use Rattle.std.proofs.lemmas.Int.{ints, unsigned_abs-mul}
use Rattle.whole_numbers.specs.Intervals.{Interval, interval_scale, size}

max_times : (m a b : ℕ) → max (m * a) (m * b) ≡ m * max a b
max_times m a b =
    elim (dec_lt a b) [
      | yes l ↦
          let low : a ≤ b = omega arith in
          let e : max a b ≡ b = omega arith in
          let p : m * a ≤ m * b = mul-le-mul_left m low in
          let f : max (m * a) (m * b) ≡ m * b = omega arith in
          f ∙ ap (λ n. m * n) (sym e)
      | no g ↦
          let low : b ≤ a = omega arith in
          let e : max a b ≡ a = omega arith in
          let p : m * b ≤ m * a = mul-le-mul_left m low in
          let f : max (m * a) (m * b) ≡ m * a = omega arith in
          f ∙ ap (λ n. m * n) (sym e)
    ]

pub scale_size : (m : ℤ) (v : Interval) → pos 0 <ℤ m → size (interval_scale m v) ≡ unsigned_abs m * size v
scale_size (pos m) v some =
    ap (λ n. max n (unsigned_abs (pos m *ℤ v.hi))) (unsigned_abs-mul (pos m) v.lo) ∙ ap (λ n. max (m * unsigned_abs v.lo) n) (unsigned_abs-mul (pos m) v.hi) ∙ max_times m (unsigned_abs v.lo) (unsigned_abs v.hi)
scale_size (negsuc m) v some = absurd (omega (arith, ints))

-- a product with digits is past 10^37 where the interval is past their part of it
pub past_digits : (digits : ℤ) (v : Interval) (m u : ℕ) → pos 0 <ℤ digits → m ≡ size v → u ≡ unsigned_abs digits → 10 ^ 37 / u < m → ¬ (size (interval_scale digits v) ≤ 10 ^ 37)
past_digits digits v m u some size_is digits_are past fits =
    let any : 0 < u = omega (arith, ints) in
    let next : 10 ^ 37 / u + 1 ≤ m = omega arith in
    let p = mul-le-mul_left u next in
    let whole = scale_size digits v some in
    let same : u * m ≡ unsigned_abs digits * size v = ap (λ n. n * m) digits_are ∙ ap (λ n. unsigned_abs digits * n) size_is in
    omega (arith, p)

pub within_digits : (digits : ℤ) (v : Interval) (m u : ℕ) → pos 0 <ℤ digits → m ≡ size v → u ≡ unsigned_abs digits → m ≤ 10 ^ 37 / u → size (interval_scale digits v) ≤ 10 ^ 37
within_digits digits v m u some size_is digits_are within =
    let any : 0 < u = omega (arith, ints) in
    let p = mul-le-mul_left u within in
    let whole = scale_size digits v some in
    let same : u * m ≡ unsigned_abs digits * size v = ap (λ n. n * m) digits_are ∙ ap (λ n. unsigned_abs digits * n) size_is in
    omega (arith, p)

-- an interval is no greater than its product with a weight's digits
pub below_digits : (m : ℤ) (v : Interval) → pos 0 <ℤ m → size v ≤ size (interval_scale m v)
below_digits m v some =
    let one : 1 ≤ unsigned_abs m = omega (arith, ints) in
    let p = mul-le-mul_right (size v) one in
    let s = scale_size m v some in
    omega (arith, p, s)
