-- Fractions that are equal, and sums of fractions with different denominators, in intervals.
use Rattle.std.proofs.Common.{◌≡◌, ℕ, ℤ, pos, ◌+ℤ◌, ◌*ℤ◌, ◌<◌, ◌*◌, arith, ap, ◌∙◌, sym}
use Rattle.std.proofs.Math.IntN.{◌-ℤ◌}
use Rattle.std.proofs.lemmas.Int.{ints}
use Rattle.whole_numbers.specs.Intervals.{Interval, Holds, interval_add, interval_sub}
use Rattle.whole_numbers.proofs.Ring.{*ℤ_assoc, *ℤ_left_comm, *ℤ_right_comm, mul_mono_pos, le_from_product}
use Rattle.whole_numbers.proofs.IntervalLaws.{holds_add, holds_sub}

-- products with three naturals are equal where those of the naturals are
pub equal_thrice : (m : ℤ) (a b c d e f : ℕ) → (a * b) * c ≡ (d * e) * f → ((m *ℤ pos a) *ℤ pos b) *ℤ pos c ≡ ((m *ℤ pos d) *ℤ pos e) *ℤ pos f
equal_thrice m a b c d e f h = gathered m a b c ∙ ap (λ z. m *ℤ pos z) h ∙ sym (gathered m d e f)
  where
    gathered : (m : ℤ) (a b c : ℕ) → ((m *ℤ pos a) *ℤ pos b) *ℤ pos c ≡ m *ℤ pos ((a * b) * c)
    gathered m a b c = ap (λ z. z *ℤ pos c) (*ℤ_assoc m (pos a) (pos b)) ∙ *ℤ_assoc m (pos (a * b)) (pos c)

pub products_apart : (a x : ℤ) (t r : ℕ) → (a *ℤ pos t) *ℤ (x *ℤ pos r) ≡ (a *ℤ x) *ℤ pos (t * r)
products_apart a x t r = *ℤ_assoc a (pos t) (x *ℤ pos r) ∙ ap (λ z. a *ℤ z) (*ℤ_left_comm (pos t) x (pos r)) ∙ sym (*ℤ_assoc a x (pos (t * r)))

pub same_from_product : (a b : ℤ) (k : ℕ) → 0 < k → a *ℤ pos k ≡ b *ℤ pos k → a ≡ b
same_from_product a b k some h =
    let l = le_from_product a b k some (omega (arith, ints)) in
    let g = le_from_product b a k some (omega (arith, ints)) in
    omega (arith, ints)

-- an interval that holds a fraction holds each fraction equal to it
pub holds_same : (w : Interval) (x y : ℤ) (q p : ℕ) → 0 < q → x *ℤ pos p ≡ y *ℤ pos q → Holds w x q → Holds w y p
holds_same w x y q p some same h = record {
  above = le_from_product (w.lo *ℤ pos p) y q some (rw (*ℤ_right_comm w.lo (pos p) (pos q), ← same) (mul_mono_pos _ _ p h.above));
  below = le_from_product y (w.hi *ℤ pos p) q some (rw (*ℤ_right_comm w.hi (pos p) (pos q), ← same) (mul_mono_pos _ _ p h.below));
}

-- the fraction over p times its denominator
pub holds_times : (w : Interval) (x : ℤ) (q p : ℕ) → Holds w x q → Holds w (x *ℤ pos p) (q * p)
holds_times w x q p h =
    let a = mul_mono_pos _ _ p h.above in
    let b = mul_mono_pos _ _ p h.below in
    record { above = omega (arith, ints, a, *ℤ_assoc w.lo (pos q) (pos p)); below = omega (arith, ints, b, *ℤ_assoc w.hi (pos q) (pos p)) }

holds_flipped : (w : Interval) (y : ℤ) (q p : ℕ) → Holds w y p → Holds w (y *ℤ pos q) (q * p)
holds_flipped w y q p h = let m = holds_times w y p q h in let e : p * q ≡ q * p = omega arith in rw (← e) m

-- sums and differences of fractions with different denominators
pub holds_sum_of : (w v : Interval) (x y : ℤ) (q p : ℕ) → Holds w x q → Holds v y p → Holds (interval_add w v) (x *ℤ pos p +ℤ y *ℤ pos q) (q * p)
holds_sum_of w v x y q p h k = holds_add w v (x *ℤ pos p) (y *ℤ pos q) (q * p) (holds_times w x q p h) (holds_flipped v y q p k)

pub holds_difference_of : (w v : Interval) (x y : ℤ) (q p : ℕ) → Holds w x q → Holds v y p → Holds (interval_sub w v) (x *ℤ pos p -ℤ y *ℤ pos q) (q * p)
holds_difference_of w v x y q p h k = holds_sub w v (x *ℤ pos p) (y *ℤ pos q) (q * p) (holds_times w x q p h) (holds_flipped v y q p k)
