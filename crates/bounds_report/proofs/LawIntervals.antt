-- What intervals hold that are scaled by powers of ten, and what the intervals of decimals hold.
use Rattle.std.proofs.Common.{◌≡◌, ◌*◌, ◌^◌, ◌<◌, ◌∙◌, ℕ, ℤ, pos, neg_ℤ, ◌+ℤ◌, ◌*ℤ◌, arith, refl}
use Rattle.std.proofs.lemmas.Int.{ints}
use Rattle.whole_numbers.specs.Intervals.{Interval, Holds}
use Rattle.whole_numbers.specs.Scaling.{interval_scale10, ten_above, ten_below}
use Rattle.whole_numbers.proofs.EqualFractions.{holds_same}
use Rattle.whole_numbers.proofs.Ring.{ring, *ℤ_assoc}
use Rattle.sys_model.specs.Scaling.{TimesPower}
use Rattle.sys_model.proofs.ScalingLaws.{times_then, times_back, times_same, times_raised, holds_power}
use Rattle.decimal_e.specs.Decimals.{Decimal}
use Rattle.decimal_e.specs.Fractions.{numerator, denominator}
use Rattle.decimal_e.specs.Scales.{decimal_interval}
use Rattle.decimal_e.proofs.Values.{holds_word, same_shift, ten_below_some}

-- the interval of x / q times 10^k, scaled by 10^l, holds x / q times 10^b, where k + l = b
pub holds_to_power : (w : Interval) (x y : ℤ) (q r b : ℕ) (k l : ℤ) → k +ℤ l ≡ pos b → 0 < q → 0 < r → TimesPower x q k y r → Holds w y r → Holds (interval_scale10 w l) (x *ℤ pos (10 ^ b)) q
holds_to_power w x y q r b k l is some any t h =
    let raised = times_then y x (x *ℤ pos (10 ^ b)) r q q (neg_ℤ k) (pos b) some (times_back x y q r k t) (times_raised x q b) in
    holds_power w y (x *ℤ pos (10 ^ b)) r q l any (times_same y (x *ℤ pos (10 ^ b)) r q (neg_ℤ k +ℤ pos b) l (omega (arith, ints)) raised) h

decimal_crossed : (m : ℤ) (t u b c k : ℕ) → m *ℤ pos (t * b) ≡ (m *ℤ pos k) *ℤ pos (u * c) → (m *ℤ pos t) *ℤ pos b ≡ ((m *ℤ pos u) *ℤ pos k) *ℤ pos c
decimal_crossed m t u b c k h =
    let l : (m *ℤ pos t) *ℤ pos b ≡ m *ℤ pos (t * b) = *ℤ_assoc m (pos t) (pos b) in
    let r : (m *ℤ pos k) *ℤ (pos u *ℤ pos c) ≡ ((m *ℤ pos u) *ℤ pos k) *ℤ pos c = simp ring in
    l ∙ h ∙ r

-- a decimal's interval at 10^k holds the decimal times 10^k
pub decimal_interval_holds : (d : Decimal) (k : ℕ) → Holds (decimal_interval d (pos k)) (numerator d *ℤ pos (10 ^ k)) (denominator d)
decimal_interval_holds d k =
    let f = d.exp +ℤ pos k in
    holds_same (decimal_interval d (pos k)) (d.mant *ℤ pos (ten_above f)) (numerator d *ℤ pos (10 ^ k)) (ten_below f) (denominator d) (ten_below_some f)
    (decimal_crossed d.mant (ten_above f) (ten_above d.exp) (ten_below d.exp) (ten_below f) (10 ^ k) (same_shift d.mant d.exp f k refl).same)
    (holds_word d (pos k))
