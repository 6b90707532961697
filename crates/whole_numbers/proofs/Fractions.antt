-- Products and quotients of fractions that intervals hold.
use Rattle.std.proofs.Common.{◌≡◌, ℕ, suc, ℤ, pos, negsuc, ◌*ℤ◌, neg_ℤ, ◌≤ℤ◌, ◌≤◌, ◌<◌, ◌*◌, ◌/◌, arith}
use Rattle.std.specs.Int.{int_min, int_max}
use Rattle.std.proofs.lemmas.Int.{ints, clamps, by_lt_z}
use Rattle.std.proofs.Math.Nat.{mul-le-mul_left, mul-le-mul_right}
use Rattle.whole_numbers.specs.Intervals.{Interval, Holds, interval_mul, least_of, greatest_of}
use Rattle.whole_numbers.specs.Quotients.{floor_over}
use Rattle.whole_numbers.proofs.Ring.{ring, *ℤ_assoc, mul_mono_pos}
use Rattle.whole_numbers.proofs.EqualFractions.{products_apart}
use Rattle.whole_numbers.proofs.Products.{interval_mul_contains}

-- the interval of w with each end times k
abbrev times_interval : Interval → ℕ → Interval
times_interval w k = record { lo = w.lo *ℤ pos k; hi = w.hi *ℤ pos k }

min_times : (a b : ℤ) (k : ℕ) → int_min (a *ℤ pos k) (b *ℤ pos k) ≡ int_min a b *ℤ pos k
min_times a b k = by_lt_z a b
    (λ l. let h = mul_mono_pos a b k (omega (arith, ints)) in let e : int_min a b ≡ a = omega (arith, ints, clamps) in rw e (omega (arith, ints, clamps)))
    (λ l. let h = mul_mono_pos b a k l in let e : int_min a b ≡ b = omega (arith, ints, clamps) in rw e (omega (arith, ints, clamps)))

max_times : (a b : ℤ) (k : ℕ) → int_max (a *ℤ pos k) (b *ℤ pos k) ≡ int_max a b *ℤ pos k
max_times a b k = by_lt_z a b
    (λ l. let h = mul_mono_pos a b k (omega (arith, ints)) in let e : int_max a b ≡ b = omega (arith, ints, clamps) in rw e (omega (arith, ints, clamps)))
    (λ l. let h = mul_mono_pos b a k l in let e : int_max a b ≡ a = omega (arith, ints, clamps) in rw e (omega (arith, ints, clamps)))

least_times : (a b c d : ℤ) (k : ℕ) → least_of (a *ℤ pos k) (b *ℤ pos k) (c *ℤ pos k) (d *ℤ pos k) ≡ least_of a b c d *ℤ pos k
unfolding least_of
least_times a b c d k = rw (min_times a b k, min_times c d k) (min_times (int_min a b) (int_min c d) k)

greatest_times : (a b c d : ℤ) (k : ℕ) → greatest_of (a *ℤ pos k) (b *ℤ pos k) (c *ℤ pos k) (d *ℤ pos k) ≡ greatest_of a b c d *ℤ pos k
unfolding greatest_of
greatest_times a b c d k = rw (max_times a b k, max_times c d k) (max_times (int_max a b) (int_max c d) k)

pub holds_mul : (w v : Interval) (x y : ℤ) (q p : ℕ) → Holds w x q → Holds v y p → Holds (interval_mul w v) (x *ℤ y) (q * p)
holds_mul w v x y q p h k =
    let m = interval_mul_contains (times_interval w q) (times_interval v p) x y (record { above = h.above; below = h.below }) (record { above = k.above; below = k.below }) in
    let a = products_apart w.lo v.lo q p in
    let b = products_apart w.lo v.hi q p in
    let c = products_apart w.hi v.lo q p in
    let d = products_apart w.hi v.hi q p in
    let l = least_times (w.lo *ℤ v.lo) (w.lo *ℤ v.hi) (w.hi *ℤ v.lo) (w.hi *ℤ v.hi) (q * p) in
    let g = greatest_times (w.lo *ℤ v.lo) (w.lo *ℤ v.hi) (w.hi *ℤ v.lo) (w.hi *ℤ v.hi) (q * p) in
    record { above = rw (a, b, c, d, l) at m.above; below = rw (a, b, c, d, g) at m.below }

-- the quotient by l to u, rounded down, of the low end a, and rounded up, of the high end a
abbrev pub quot_lo : ℤ → ℕ → ℕ → ℤ
quot_lo (pos n) l u = floor_over (pos n) u
quot_lo (negsuc n) l u = floor_over (negsuc n) l

abbrev pub quot_hi : ℤ → ℕ → ℕ → ℤ
quot_hi b l u = neg_ℤ (quot_lo (neg_ℤ b) l u)

pub quot_above : (a : ℤ) (l u : ℕ) (x : ℤ) (q y p : ℕ) → 0 < l → 0 < u → l * p ≤ y → y ≤ u * p → (a *ℤ pos q) ≤ℤ x → (quot_lo a l u *ℤ pos (q * y)) ≤ℤ (x *ℤ pos p)
quot_above (pos n) l u x q y p some any low high h =
    let f = mul_mono_pos (pos n *ℤ pos q) x p h in
    let t = mul-le-mul_left ((n / u) * q) high in
    let r : (n / u) * u ≤ n = omega arith in
    let s = mul-le-mul_right (q * p) r in
    omega (arith, ints, f, t, s)
quot_above (negsuc n) l u x q y p some any low high h =
    let f = mul_mono_pos (negsuc n *ℤ pos q) x p h in
    let t = mul-le-mul_left (suc (n / l) * q) low in
    let r : suc n ≤ suc (n / l) * l = omega arith in
    let s = mul-le-mul_right (q * p) r in
    omega (arith, ints, f, t, s, *ℤ_assoc (negsuc n) (pos q) (pos p))

-- the same at the high end, by signs
pub quot_below : (b : ℤ) (l u : ℕ) (x : ℤ) (q y p : ℕ) → 0 < l → 0 < u → l * p ≤ y → y ≤ u * p → x ≤ℤ (b *ℤ pos q) → (x *ℤ pos p) ≤ℤ (quot_hi b l u *ℤ pos (q * y))
quot_below b l u x q y p some any low high h =
    let a = quot_above (neg_ℤ b) l u (neg_ℤ x) q y p some any low high (simp ring (omega (arith, ints))) in
    let m = simp ring at a in simp ring (omega (arith, ints))
