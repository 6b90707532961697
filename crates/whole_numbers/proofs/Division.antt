-- What a rounded quotient is.
use Rattle.std.proofs.Common.{◌≡◌, ℕ, ℤ, pos, negsuc, ◌+ℤ◌, ◌*ℤ◌, neg_ℤ, ◌≤ℤ◌, ◌<ℤ◌, ◌≤◌, ◌<◌, arith, sym}
use Rattle.std.specs.Int.{int_div_euclid, int_rem_euclid}
use Rattle.std.proofs.Common.{unsigned_abs, ◌^◌, zero, suc, FitsSigned}
use Rattle.std.specs.Int.{Width}
use Rattle.std.proofs.Math.Nat.{pow-le-pow_right}
use Rattle.std.proofs.lemmas.Int.{ints}
use Rattle.whole_numbers.specs.Quotients.{floor_over, ceil_over}
use Rattle.whole_numbers.proofs.Ring.{ring, less_from_product, le_from_product}
use Rattle.whole_numbers.proofs.IntervalLaws.{floor_over_le, lt-floor_over, two_pow_above, le-ceil_over}

-- a number is the quotient rounded down if its product is at most z and the next one's is not
pub floor_over_is : (z : ℤ) (m : ℕ) (f : ℤ) → 0 < m → (f *ℤ pos m) ≤ℤ z → z <ℤ (f *ℤ pos m +ℤ pos m) → floor_over z m ≡ f
floor_over_is z m f h low high =
    let a = floor_over_le z m h in
    let b = lt-floor_over z m h in
    let p = less_from_product (floor_over z m) (f +ℤ pos 1) m (simp ring (omega (arith, ints))) in
    let q = less_from_product f (floor_over z m +ℤ pos 1) m (simp ring (omega (arith, ints))) in
    omega (arith, ints, p, q)

pub ceil_over_is : (z : ℤ) (m : ℕ) (f : ℤ) → 0 < m → z ≤ℤ (f *ℤ pos m) → (f *ℤ pos m) <ℤ (z +ℤ pos m) → ceil_over z m ≡ f
ceil_over_is z m f h low high =
    let e = floor_over_is (neg_ℤ z) m (neg_ℤ f) h (simp ring (omega (arith, ints))) (simp ring (omega (arith, ints))) in
    omega (arith, ints, e)

pub parts : (x : ℤ) (m : ℕ) → 0 < m → int_div_euclid x (pos m) *ℤ pos m +ℤ int_rem_euclid x (pos m) ≡ x
parts (pos a) m h = omega (arith, ints)
parts (negsuc a) m h = omega (arith, ints)

pub rem_range : (x : ℤ) (m : ℕ) → 0 < m → (pos 0 ≤ℤ int_rem_euclid x (pos m)) × (int_rem_euclid x (pos m) <ℤ pos m)
rem_range (pos a) m h = omega (arith, ints)
rem_range (negsuc a) m h = omega (arith, ints)

-- what `ceil_div` gives, where the remainder is 0 and where it is not
pub ceil_exact : (x den q r : ℤ) → pos 0 <ℤ den → q ≡ int_div_euclid x den → r ≡ int_rem_euclid x den → r ≡ pos 0 → q ≡ ceil_over x (unsigned_abs den)
ceil_exact x (pos m) q r h d e z = let p = parts x m (omega (arith, ints)) in sym (ceil_over_is x m q (omega (arith, ints)) (rw d (omega (arith, ints))) (rw d (omega (arith, ints))))
ceil_exact x (negsuc m) q r h d e z = absurd (omega (arith, ints))

pub ceil_more : (x den q r : ℤ) → pos 0 <ℤ den → q ≡ int_div_euclid x den → r ≡ int_rem_euclid x den → ¬ (r ≡ pos 0) → q +ℤ pos 1 ≡ ceil_over x (unsigned_abs den)
ceil_more x (pos m) q r h d e z =
    let some : 0 < m = omega (arith, ints) in
    let p = parts x m some in
    let g = rem_range x m some in
    sym (ceil_over_is x m (q +ℤ pos 1) some (rw d (simp ring (omega (arith, ints)))) (rw d (simp ring (omega (arith, ints)))))
ceil_more x (negsuc m) q r h d e z = absurd (omega (arith, ints))

pub two_pow_small : (h : ℕ) → h ≤ 126 → (0 < 2 ^ h) × (2 ^ h ≤ 2 ^ 126)
two_pow_small h l = (two_pow_above h, pow-le-pow_right {n = 2} (omega arith) l)

pub two_pow_le : (k : ℕ) → k ≤ 110 → (0 < 2 ^ k) × (2 ^ k ≤ 2 ^ 110)
two_pow_le k h = (two_pow_above k, pow-le-pow_right {n = 2} (omega arith) h)

pub ceil_over_fits : (w : Width) (x : ℤ) (m : ℕ) → FitsSigned w x → FitsSigned w (ceil_over x m)
ceil_over_fits w (pos zero) m h = omega (arith, ints)
ceil_over_fits w (pos (suc n)) m h = omega (arith, ints)
ceil_over_fits w (negsuc n) m h = omega (arith, ints)

pub floor_le_ceil : (a b : ℤ) (m : ℕ) → 0 < m → a ≤ℤ b → floor_over a m ≤ℤ ceil_over b m
floor_le_ceil a b m some h = let p = floor_over_le a m some in let q = le-ceil_over b m some in le_from_product (floor_over a m) (ceil_over b m) m some (omega (arith, ints))
