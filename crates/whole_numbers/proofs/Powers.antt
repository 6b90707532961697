-- Powers of ten, and when a product with one is small.
use Rattle.std.proofs.Common.{◌≡◌, ◌≢◌, ℕ, ℤ, pos, negsuc, ◌*ℤ◌, ◌<ℤ◌, ◌≤ℤ◌, ◌*◌, ◌/◌, ◌≤◌, ◌<◌, ◌^◌, unsigned_abs, FitsSigned, arith, sym}
use Rattle.std.specs.Int.{w128}
use Rattle.std.proofs.lemmas.Int.{ints, unsigned_abs-mul, fits_signed_from_abs}
use Rattle.std.proofs.Math.Nat.{pow-le-pow_right, one-le-pow, mul-le-mul, mul-le-mul_right}
use Rattle.whole_numbers.specs.Quotients.{floor_over, ceil_over}
use Rattle.whole_numbers.proofs.Division.{floor_over_is, ceil_over_is}

pub ten_le : (a b : ℕ) → a ≤ b → 10 ^ a ≤ 10 ^ b
ten_le a b h = pow-le-pow_right {n = 10} (omega arith) h

pub ten_pow_above : (k : ℕ) → 0 < 10 ^ k
ten_pow_above k = one-le-pow k 10 (omega arith)

pub ten_fits : (k : ℕ) → k ≤ 38 → FitsSigned w128 (pos (10 ^ k))
ten_fits k h = let t = ten_le k 38 h in fits_signed_from_abs w128 (pos (10 ^ k)) (omega arith)

abs_some : (m : ℤ) → m ≢ pos 0 → 1 ≤ unsigned_abs m
abs_some m h = omega (arith, ints)

pub raised_far : (m : ℤ) (k : ℕ) → m ≢ pos 0 → 38 ≤ k → unsigned_abs (m *ℤ pos (10 ^ k)) ≤ 10 ^ 37 → ⊥
raised_far m k h l s =
    let p = mul-le-mul (abs_some m h) (ten_le 38 k l) in
    omega (arith, unsigned_abs-mul m (pos (10 ^ k)), p)

quotient_more : (a p l : ℕ) → 0 < p → l / p < a → a * p ≤ l → ⊥
quotient_more a p l h q s = let t = mul-le-mul_right p q in omega (arith, t)

quotient_most : (a p l : ℕ) → a ≤ l / p → a * p ≤ l
quotient_most a p l q = let t = mul-le-mul_right p q in omega (arith, t)

pub raised_more : (m : ℤ) (k : ℕ) → 10 ^ 37 / 10 ^ k < unsigned_abs m → unsigned_abs (m *ℤ pos (10 ^ k)) ≤ 10 ^ 37 → ⊥
raised_more m k q s = quotient_more (unsigned_abs m) (10 ^ k) (10 ^ 37) (ten_pow_above k) q (omega (arith, unsigned_abs-mul m (pos (10 ^ k))))

pub raised_most : (m : ℤ) (k : ℕ) → unsigned_abs m ≤ 10 ^ 37 / 10 ^ k → unsigned_abs (m *ℤ pos (10 ^ k)) ≤ 10 ^ 37
raised_most m k q = let t = quotient_most (unsigned_abs m) (10 ^ k) (10 ^ 37) q in omega (arith, unsigned_abs-mul m (pos (10 ^ k)))

-- beyond 10^38 each number of 128 bits has the quotient 0 or one of size 1
pub floor_far_up : (z : ℤ) (k : ℕ) → FitsSigned w128 z → 38 < k → pos 0 ≤ℤ z → pos 0 ≡ floor_over z (10 ^ k)
floor_far_up z k h l s = let t = ten_le 39 k l in sym (floor_over_is z (10 ^ k) (pos 0) (ten_pow_above k) (omega (arith, ints)) (omega (arith, ints)))

pub floor_far_down : (z : ℤ) (k : ℕ) → FitsSigned w128 z → 38 < k → z <ℤ pos 0 → negsuc 0 ≡ floor_over z (10 ^ k)
floor_far_down z k h l s = let t = ten_le 39 k l in sym (floor_over_is z (10 ^ k) (negsuc 0) (ten_pow_above k) (omega (arith, ints)) (omega (arith, ints)))

pub ceil_far_up : (z : ℤ) (k : ℕ) → FitsSigned w128 z → 38 < k → pos 0 <ℤ z → pos 1 ≡ ceil_over z (10 ^ k)
ceil_far_up z k h l s = let t = ten_le 39 k l in sym (ceil_over_is z (10 ^ k) (pos 1) (ten_pow_above k) (omega (arith, ints)) (omega (arith, ints)))

pub ceil_far_down : (z : ℤ) (k : ℕ) → FitsSigned w128 z → 38 < k → z ≤ℤ pos 0 → pos 0 ≡ ceil_over z (10 ^ k)
ceil_far_down z k h l s = let t = ten_le 39 k l in sym (ceil_over_is z (10 ^ k) (pos 0) (ten_pow_above k) (omega (arith, ints)) (omega (arith, ints)))
