-- A decimal is of a limited size where its floor and its ceiling are.
use Rattle.std.proofs.Common.{◌≡◌, ℕ, suc, ℤ, pos, negsuc, ◌+ℤ◌, neg_ℤ, ◌≤ℤ◌, ◌≤◌, ◌<◌, ◌*◌, ◌^◌, unsigned_abs, arith}
use Rattle.std.proofs.lemmas.Int.{ints, to_z-of_z}
use Rattle.whole_numbers.specs.Quotients.{floor_over, ceil_over}
use Rattle.whole_numbers.specs.Scaling.{floor_scaled, ceil_scaled}
use Rattle.whole_numbers.proofs.Powers.{ten_pow_above}
use Rattle.whole_numbers.proofs.Ring.{+ℤ-*ℤ, neg-*ℤ, mul_mono_pos, less_from_product}
use Rattle.whole_numbers.proofs.IntervalLaws.{floor_over_le, lt-floor_over, le-ceil_over}
use Rattle.whole_numbers.proofs.Scaled.{floor_scaled_le_ceil}
use Rattle.decimal_e.specs.Decimals.{Decimal}
use Rattle.decimal_e.specs.Fractions.{IsAtMost, LieWithin}

-- ---- of a quotient
floor_within : (most : ℕ) (z : ℤ) (m : ℕ) → 0 < m → unsigned_abs z ≤ most * m → neg_ℤ (pos most) ≤ℤ floor_over z m
floor_within most z m some h =
    let f = lt-floor_over z m some in
    let e = +ℤ-*ℤ (floor_over z m) (pos 1) (pos m) in
    let n = neg-*ℤ (pos most) (pos m) in
    let p = less_from_product (neg_ℤ (pos most)) (floor_over z m +ℤ pos 1) m (omega (arith, ints, f, e, n)) in
    omega (arith, ints, p)

quotient_within : (most : ℕ) (z : ℤ) (m : ℕ) → 0 < m → unsigned_abs z ≤ most * m → LieWithin most (floor_over z m) (ceil_over z m)
quotient_within most z m some h =
    let f = floor_within most (neg_ℤ z) m some (omega (arith, ints, h)) in
    record { low_end = floor_within most z m some h; high_end = omega (arith, ints, f) }

quotient_small : (most : ℕ) (z : ℤ) (m : ℕ) → 0 < m → LieWithin most (floor_over z m) (ceil_over z m) → unsigned_abs z ≤ most * m
quotient_small most z m some h =
    let f = floor_over_le z m some in
    let c = le-ceil_over z m some in
    let l = mul_mono_pos _ _ m h.low_end in
    let u = mul_mono_pos _ _ m h.high_end in
    let n = neg-*ℤ (pos most) (pos m) in
    omega (arith, ints, f, c, l, u, n)

-- ---- of a decimal
by_exp : (most : ℕ) (m e : ℤ) → IsAtMost most (record { mant = m; exp = e }) → LieWithin most (floor_scaled m e) (ceil_scaled m e)
by_exp most m (pos k) h = record { low_end = omega (arith, ints, h); high_end = omega (arith, ints, h) }
by_exp most m (negsuc k) h = quotient_within most m (10 ^ suc k) (ten_pow_above (suc k)) (omega (arith, ints, h))

small_by_exp : (most : ℕ) (m e : ℤ) → LieWithin most (floor_scaled m e) (ceil_scaled m e) → IsAtMost most (record { mant = m; exp = e })
small_by_exp most m (pos k) h = omega (arith, ints, h.low_end, h.high_end)
small_by_exp most m (negsuc k) h = let s = quotient_small most m (10 ^ suc k) (ten_pow_above (suc k)) h in omega (arith, ints, s)

pub moved : (most : ℕ) (a b x y : ℤ) → a ≡ x → b ≡ y → LieWithin most a b → LieWithin most x y
moved most a b x y e f h = rw (← e, ← f) h

-- as the floor and the ceiling at the power 0
same_exp : (e : ℤ) → e +ℤ pos 0 ≡ e
same_exp e = omega (arith, ints)

pub within : (most : ℕ) (d : Decimal) → IsAtMost most d → LieWithin most (floor_scaled d.mant (d.exp +ℤ pos 0)) (ceil_scaled d.mant (d.exp +ℤ pos 0))
within most d h = rw (same_exp d.exp) (by_exp most d.mant d.exp h)

pub at_most : (most : ℕ) (d : Decimal) → LieWithin most (floor_scaled d.mant (d.exp +ℤ pos 0)) (ceil_scaled d.mant (d.exp +ℤ pos 0)) → IsAtMost most d
at_most most d h = small_by_exp most d.mant d.exp (rw (same_exp d.exp) at h)

-- a floor or a ceiling that is too large for its type is that of a decimal that is too large
pub floor_too_large : (most limit : ℕ) (d : Decimal) → most ≤ limit → (unsigned_abs (floor_scaled d.mant (d.exp +ℤ pos 0)) ≤ limit → ⊥) → IsAtMost most d → ⊥
floor_too_large most limit d l n h =
    let w = within most d h in
    let o = floor_scaled_le_ceil d.mant d.mant (d.exp +ℤ pos 0) (omega (arith, ints)) in
    n (omega (arith, ints, w.low_end, w.high_end, o))

pub ceil_too_large : (most limit : ℕ) (d : Decimal) → most ≤ limit → (unsigned_abs (ceil_scaled d.mant (d.exp +ℤ pos 0)) ≤ limit → ⊥) → IsAtMost most d → ⊥
ceil_too_large most limit d l n h =
    let w = within most d h in
    let o = floor_scaled_le_ceil d.mant d.mant (d.exp +ℤ pos 0) (omega (arith, ints)) in
    n (omega (arith, ints, w.low_end, w.high_end, o))

-- ---- the interval from the floor to the ceiling
pub ends_ordered : (m k : ℤ) → floor_scaled m k ≤ℤ ceil_scaled m k
ends_ordered m k = floor_scaled_le_ceil m m k (omega (arith, ints))

pub ruleset interval_rules = (to_z-of_z, ends_ordered)
