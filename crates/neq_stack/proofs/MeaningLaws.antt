-- The interval of a decimal times a power of ten holds the fractions that the decimal means.
use Rattle.std.proofs.Common.{◌≡◌, ◌<◌, ◌*◌, ◌∙◌, ℕ, ℤ, pos, ◌+ℤ◌, ◌*ℤ◌, arith, sym, ap}
use Rattle.whole_numbers.specs.Scaling.{ten_above, ten_below}
use Rattle.whole_numbers.proofs.EqualFractions.{holds_same}
use Rattle.whole_numbers.proofs.Ring.{*ℤ_assoc, *ℤ_left_comm}
use Rattle.decimal_e.specs.Decimals.{Decimal}
use Rattle.decimal_e.specs.Fractions.{numerator, denominator, Means}
use Rattle.decimal_e.specs.Scales.{decimal_interval}
use Rattle.decimal_e.proofs.Values.{holds_word, ten_below_some}
use Rattle.sys_model.specs.Scaling.{TimesPower, HoldsTimes}
use Rattle.sys_model.proofs.ScalingLaws.{times_then}

-- the fraction x / q is the mantissa times the power of the exponent
means_power : (d : Decimal) (x : ℤ) (q : ℕ) → Means d x q → TimesPower d.mant 1 d.exp x q
means_power d x q m =
    let one : 1 * denominator d ≡ denominator d = omega arith in
    let turned : q * ten_above d.exp ≡ ten_above d.exp * q = omega arith in
    ap (λ n. x *ℤ pos n) one ∙ sym m ∙ *ℤ_assoc d.mant (pos (ten_above d.exp)) (pos q) ∙ ap (λ n. d.mant *ℤ pos n) (sym turned)

own_power : (x : ℤ) (q : ℕ) (k : ℤ) → TimesPower x q k (x *ℤ pos (ten_above k)) (q * ten_below k)
own_power x q k =
    let turned : ten_above k * (q * ten_below k) ≡ (q * ten_below k) * ten_above k = omega arith in
    *ℤ_assoc x (pos (ten_above k)) (pos (q * ten_below k)) ∙ ap (λ n. x *ℤ pos n) turned

pub means_holds : (d : Decimal) (x : ℤ) (q : ℕ) (k : ℤ) → 0 < q → Means d x q → HoldsTimes (decimal_interval d k) x q k
means_holds d x q k some m =
    let f = d.exp +ℤ k in
    let both : TimesPower d.mant 1 f (x *ℤ pos (ten_above k)) (q * ten_below k) = times_then d.mant x (x *ℤ pos (ten_above k)) 1 q (q * ten_below k) d.exp k some (means_power d x q m) (own_power x q k) in
    let one : 1 * ten_below f ≡ ten_below f = omega arith in
    let turned : ten_above f * (q * ten_below k) ≡ (q * ten_below k) * ten_above f = omega arith in
    let same : (d.mant *ℤ pos (ten_above f)) *ℤ pos (q * ten_below k) ≡ (x *ℤ pos (ten_above k)) *ℤ pos (ten_below f) =
    *ℤ_assoc d.mant (pos (ten_above f)) (pos (q * ten_below k)) ∙ ap (λ n. d.mant *ℤ pos n) turned ∙ sym both ∙ ap (λ n. (x *ℤ pos (ten_above k)) *ℤ pos n) one in
    holds_same (decimal_interval d k) (d.mant *ℤ pos (ten_above f)) (x *ℤ pos (ten_above k)) (ten_below f) (q * ten_below k) (ten_below_some f) same (holds_word d k)

-- ---- multiples
pub means_multiple : (d : Decimal) (x : ℤ) (q k : ℕ) → Means d x q → Means d (pos k *ℤ x) (k * q)
means_multiple d x q k m = *ℤ_left_comm (numerator d) (pos k) (pos q) ∙ ap (λ n. pos k *ℤ n) m ∙ sym (*ℤ_assoc (pos k) x (pos (denominator d)))
