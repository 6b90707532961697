-- Intervals of standard deviations: what fits, and the fractions that they hold.
use Rattle.std.proofs.Common.{◌≡◌, ◌≢◌, ◌≤◌, ◌<◌, ◌*◌, ◌+◌, ◌/◌, ◌^◌, ◌∙◌, ℕ, ℤ, pos, negsuc, neg_ℤ, ◌+ℤ◌, ◌*ℤ◌, ◌<ℤ◌, Option, Some, None, IfSome, IfNone, SomeIff, max, unsigned_abs, refl, sym, ap, subst, arith}
use Rattle.std.proofs.Math.Decide.{dec_lt}
use Rattle.std.proofs.Math.IntN.{◌-ℤ◌}
use Rattle.std.proofs.Math.Nat.{mul-pos, mul-le-mul_right, mul-le-mul_left}
use Rattle.std.proofs.lemmas.Int.{ints, unsigned_abs-mul}
use Rattle.whole_numbers.specs.Intervals.{Interval, Holds, interval_scale, size}
use Rattle.whole_numbers.specs.Scaling.{interval_scale10, ten_above, ten_below}
use Rattle.whole_numbers.proofs.EqualFractions.{same_from_product}
use Rattle.whole_numbers.proofs.IntervalLaws.{holds_scale}
use Rattle.whole_numbers.proofs.Ring.{*ℤ_assoc}
use Rattle.decimal_e.specs.Decimals.{Decimal}
use Rattle.decimal_e.specs.Fractions.{numerator, denominator}
use Rattle.sym_blocks.specs.Tables.{zero_interval}
use Rattle.sys_model.specs.Scaling.{TimesPower, HoldsTimes}
use Rattle.sys_model.proofs.ScalingLaws.{ten_above_some, ten_below_some, ten_sum, times_then, times_back, times_same, holds_power}
use Rattle.inverse_squares.specs.Quotients.{IsOverSquare, square, power_left}
use Rattle.inverse_squares.proofs.Alone.{one_over_square}
use Rattle.inverse_squares.proofs.HoldLaws.{over_square_holds}
use Rattle.apriori_shift.proofs.FractionLaws.{zero_holds}
use Rattle.named_tables.specs.Weighted.{IsWeight, WeightFits, weighted_interval}
use Rattle.recover_solution.specs.Exact.{IsOverSigma}
use Rattle.recover_solution.specs.Recovery.{SigmaFits, IsSigmaInterval}
use Rattle.recover_solution.specs.Parts.{IsFittingSigma}

-- ---- sizes
max_times : (m a b : ℕ) → max (m * a) (m * b) ≡ m * max a b
max_times m a b =
    elim (dec_lt a b) [
      | yes l ↦
          let low : a ≤ b = omega arith in
          let e : max a b ≡ b = omega arith in
          let p : m * a ≤ m * b = mul-le-mul_left m low in
          let f : max (m * a) (m * b) ≡ m * b = omega arith in
          f ∙ ap (λ n. m * n) (sym e)
      | no g ↦
          let low : b ≤ a = omega arith in
          let e : max a b ≡ a = omega arith in
          let p : m * b ≤ m * a = mul-le-mul_left m low in
          let f : max (m * a) (m * b) ≡ m * a = omega arith in
          f ∙ ap (λ n. m * n) (sym e)
    ]

pub scale_size : (m : ℤ) (v : Interval) → pos 0 <ℤ m → size (interval_scale m v) ≡ unsigned_abs m * size v
scale_size (pos m) v some =
    ap (λ n. max n (unsigned_abs (pos m *ℤ v.hi))) (unsigned_abs-mul (pos m) v.lo) ∙ ap (λ n. max (m * unsigned_abs v.lo) n) (unsigned_abs-mul (pos m) v.hi) ∙ max_times m (unsigned_abs v.lo) (unsigned_abs v.hi)
scale_size (negsuc m) v some = absurd (omega (arith, ints))

-- a product with digits is past 10^37 where the interval is past their part of it
pub past_digits : (digits : ℤ) (v : Interval) (m u : ℕ) → pos 0 <ℤ digits → m ≡ size v → u ≡ unsigned_abs digits → 10 ^ 37 / u < m → ¬ (size (interval_scale digits v) ≤ 10 ^ 37)
past_digits digits v m u some size_is digits_are past fits =
    let any : 0 < u = omega (arith, ints) in
    let next : 10 ^ 37 / u + 1 ≤ m = omega arith in
    let p = mul-le-mul_left u next in
    let whole = scale_size digits v some in
    let same : u * m ≡ unsigned_abs digits * size v = ap (λ n. n * m) digits_are ∙ ap (λ n. unsigned_abs digits * n) size_is in
    omega (arith, p)

pub within_digits : (digits : ℤ) (v : Interval) (m u : ℕ) → pos 0 <ℤ digits → m ≡ size v → u ≡ unsigned_abs digits → m ≤ 10 ^ 37 / u → size (interval_scale digits v) ≤ 10 ^ 37
within_digits digits v m u some size_is digits_are within =
    let any : 0 < u = omega (arith, ints) in
    let p = mul-le-mul_left u within in
    let whole = scale_size digits v some in
    let same : u * m ≡ unsigned_abs digits * size v = ap (λ n. n * m) digits_are ∙ ap (λ n. unsigned_abs digits * n) size_is in
    omega (arith, p)

-- an interval is no greater than its product with a weight's digits
pub below_digits : (m : ℤ) (v : Interval) → pos 0 <ℤ m → size v ≤ size (interval_scale m v)
below_digits m v some =
    let one : 1 ≤ unsigned_abs m = omega (arith, ints) in
    let p = mul-le-mul_right (size v) one in
    let s = scale_size m v some in
    omega (arith, p, s)

-- ---- what the calls answer
pub weighted_answer : (weight : Decimal) (v w : Interval) (r : Option Interval) → SomeIff (Some w) (size (interval_scale weight.mant v) ≤ 10 ^ 37) (interval_scale weight.mant v)
    → SomeIff r (size (interval_scale10 w weight.exp) ≤ 10 ^ 34) (interval_scale10 w weight.exp) → SomeIff r (WeightFits weight v) (weighted_interval weight v)
weighted_answer weight v w (Some x) (digits, is) (modest, whole) =
    let same : interval_scale10 w weight.exp ≡ weighted_interval weight v = ap (λ u. interval_scale10 u weight.exp) is in
    (record { digits = digits; modest = subst (λ u. size u ≤ 10 ^ 34) same modest }, whole ∙ same)
weighted_answer weight v w None (digits, is) past =
    let same : interval_scale10 w weight.exp ≡ weighted_interval weight v = ap (λ u. interval_scale10 u weight.exp) is in
    λ fits. past (subst (λ u. size u ≤ 10 ^ 34) (sym same) fits.modest)

module _ (weight s : Decimal) (k : ℤ) (w : Interval) (over : IsOverSquare (pos 1) s k w) where
  pub past_over : IsWeight weight → ¬ (size w ≤ 10 ^ 37) → SigmaFits weight (Some s) k → ⊥
  past_over fine past fits =
      let same : fits.0 ≡ w = one_over_square (pos 1) s k fits.0 w fits.1 over in
      let digits : size (interval_scale weight.mant w) ≤ 10 ^ 37 = subst (λ u. size (interval_scale weight.mant u) ≤ 10 ^ 37) same fits.2.digits in
      past (let below = below_digits weight.mant w fine.some in omega arith)

  pub sigma_answer : (v : Interval) (r : Option Interval) → v ≡ w → SomeIff r (WeightFits weight v) (weighted_interval weight v) → IfSome r (IsFittingSigma weight (Some s) k)
  sigma_answer v None is h = tt
  sigma_answer v (Some x) is h =
      record { interval = (w, over, h.1 ∙ ap (weighted_interval weight) is); fits = (w, over, subst (WeightFits weight) is h.0) }

  pub sigma_refused : (v : Interval) (r : Option Interval) → v ≡ w → SomeIff r (WeightFits weight v) (weighted_interval weight v) → IfNone r (SigmaFits weight (Some s) k → ⊥)
  sigma_refused v (Some x) is h = tt
  sigma_refused v None is h = λ fits.
      let same : fits.0 ≡ w = one_over_square (pos 1) s k fits.0 w fits.1 over in
      h (subst (WeightFits weight) (same ∙ sym is) fits.2)

-- ---- what the interval holds
-- a product of a number with itself
pub square_pos : (z : ℤ) → z *ℤ z ≡ pos (unsigned_abs z * unsigned_abs z)
square_pos (pos n) = refl
square_pos (negsuc n) = omega (arith, ints)

pub gathered : (x : ℤ) (a b : ℕ) → (x *ℤ pos a) *ℤ pos b ≡ x *ℤ pos (a * b)
gathered x a b = *ℤ_assoc x (pos a) (pos b)

nat_from_product : (x y k : ℕ) → 0 < k → x * k ≡ y * k → x ≡ y
nat_from_product x y k some same = let h = same_from_product (pos x) (pos y) k some (ap pos same) in ap unsigned_abs h

-- powers of ten of a weight, a standard deviation and their quotient
tens_over : (w s : ℤ) → ten_above (w -ℤ s -ℤ s) * (ten_below w * (ten_above s * ten_above s)) ≡ ten_below (w -ℤ s -ℤ s) * (ten_above w * (ten_below s * ten_below s))
tens_over w s =
    let R = w -ℤ s -ℤ s in
    let back : R +ℤ s +ℤ s ≡ w = omega (arith, ints) in
    let one = ten_sum R s in
    let other : (ten_above (R +ℤ s) * ten_above s) * ten_below w ≡ ten_above w * (ten_below (R +ℤ s) * ten_below s) =
    subst (λ e. (ten_above (R +ℤ s) * ten_above s) * ten_below e ≡ ten_above e * (ten_below (R +ℤ s) * ten_below s)) back (ten_sum (R +ℤ s) s) in
    joined (ten_above R) (ten_below R) (ten_above s) (ten_below s) (ten_above (R +ℤ s)) (ten_below (R +ℤ s)) (ten_above w) (ten_below w) (ten_above_some (R +ℤ s)) (ten_below_some (R +ℤ s)) one other
  where
    joined : (a b c d e f g h : ℕ) → 0 < e → 0 < f → (a * c) * f ≡ e * (b * d) → (e * c) * h ≡ g * (f * d) → a * (h * (c * c)) ≡ b * (g * (d * d))
    joined a b c d e f g h some any one other =
        let left : (a * (h * (c * c))) * (e * f) ≡ ((a * c) * f) * ((e * c) * h) = omega arith in
        let right : (e * (b * d)) * (g * (f * d)) ≡ (b * (g * (d * d))) * (e * f) = omega arith in
        let both : (a * (h * (c * c))) * (e * f) ≡ (b * (g * (d * d))) * (e * f) = left ∙ ap (λ z. z * ((e * c) * h)) one ∙ ap (λ z. (e * (b * d)) * z) other ∙ right in
        nat_from_product (a * (h * (c * c))) (b * (g * (d * d))) (e * f) (mul-pos some any) both

-- x / q times the square of n * As / Bs is the weight wm * Aw / Bw: then x / q is wm / n^2 times AR / BR
crossed : (x wm : ℤ) (q Aw Bw n As Bs AR BR : ℕ) → 0 < Aw → 0 < Bs → AR * (Bw * (As * As)) ≡ BR * (Aw * (Bs * Bs))
    → (x *ℤ pos Bw) *ℤ pos ((n * As) * (n * As)) ≡ (wm *ℤ pos Aw) *ℤ pos (q * (Bs * Bs)) → x *ℤ pos ((n * n) * BR) ≡ wm *ℤ pos (q * AR)
crossed x wm q Aw Bw n As Bs AR BR some any tens is =
    let f = ap (λ z. (n * n) * z) tens in
    let left : ((n * n) * BR) * (Aw * (Bs * Bs)) ≡ (Bw * ((n * As) * (n * As))) * AR = omega (arith, f) in
    let right : (Aw * (q * (Bs * Bs))) * AR ≡ (q * AR) * (Aw * (Bs * Bs)) = omega arith in
    same_from_product (x *ℤ pos ((n * n) * BR)) (wm *ℤ pos (q * AR)) (Aw * (Bs * Bs)) (mul-pos some (mul-pos any any))
    (gathered x ((n * n) * BR) (Aw * (Bs * Bs))
    ∙ ap (λ z. x *ℤ pos z) left
    ∙ sym (gathered x (Bw * ((n * As) * (n * As))) AR)
    ∙ ap (λ z. z *ℤ pos AR) (sym (gathered x Bw ((n * As) * (n * As))) ∙ is ∙ gathered wm Aw (q * (Bs * Bs)))
    ∙ gathered wm (Aw * (q * (Bs * Bs))) AR
    ∙ ap (λ z. wm *ℤ pos z) right
    ∙ sym (gathered wm (q * AR) (Aw * (Bs * Bs))))

-- the square of a numerator
pub numerator_square : (s : Decimal) → numerator s *ℤ numerator s ≡ pos ((unsigned_abs s.mant * ten_above s.exp) * (unsigned_abs s.mant * ten_above s.exp))
numerator_square s = square_pos (numerator s) ∙ ap (λ n. pos (n * n)) (unsigned_abs-mul s.mant (pos (ten_above s.exp)))

-- the fraction of a weight over the square of a standard deviation
over_power : (weight s : Decimal) (x : ℤ) (q : ℕ) → IsOverSigma weight (Some s) x q → TimesPower weight.mant (square s) (weight.exp -ℤ s.exp -ℤ s.exp) x q
over_power weight s x q is =
    crossed x weight.mant q (ten_above weight.exp) (ten_below weight.exp) (unsigned_abs s.mant) (ten_above s.exp) (ten_below s.exp) (ten_above (weight.exp -ℤ s.exp -ℤ s.exp)) (ten_below (weight.exp -ℤ s.exp -ℤ s.exp))
    (ten_above_some weight.exp) (ten_below_some s.exp) (tens_over weight.exp s.exp) (ap (λ z. (x *ℤ pos (denominator weight)) *ℤ z) (sym (numerator_square s)) ∙ is)

own_power : (x : ℤ) (q : ℕ) (k : ℤ) → TimesPower x q k (x *ℤ pos (ten_above k)) (q * ten_below k)
own_power x q k =
    let turned : ten_above k * (q * ten_below k) ≡ (q * ten_below k) * ten_above k = omega arith in
    gathered x (ten_above k) (q * ten_below k) ∙ ap (λ n. x *ℤ pos n) turned

-- a number times the power that is left
digits_power : (wm : ℤ) (q : ℕ) (k : ℤ) → TimesPower wm q k (wm *ℤ (pos 1 *ℤ pos (ten_above k))) (q * ten_below k)
digits_power wm q k =
    let one : pos 1 *ℤ pos (ten_above k) ≡ pos (ten_above k) = omega (arith, ints) in
    ap (λ z. (wm *ℤ z) *ℤ pos (q * ten_below k)) one ∙ own_power wm q k

pub sigma_holds : (weight : Decimal) (dev : Option Decimal) (k : ℤ) (w : Interval) (x : ℤ) (q : ℕ) → 0 < q → IfSome dev (λ s. pos 0 <ℤ s.mant) → IsSigmaInterval weight dev k w → IsOverSigma weight dev x q → HoldsTimes w x q k
sigma_holds weight None k w x q some fine is over = subst (λ v. HoldsTimes v x q k) (sym is) (subst (λ z. HoldsTimes zero_interval z q k) (sym over) (zero_holds q k))
sigma_holds weight (Some s) k w x q some fine (v, quotient, is) over =
    let P = power_left s k in
    let R = weight.exp -ℤ s.exp -ℤ s.exp in
    let apart : s.mant ≢ pos 0 = λ none. omega (arith, ints) in
    let one : 0 < unsigned_abs s.mant = omega (arith, ints) in
    let sq : 0 < square s = mul-pos one one in
    let inner = over_square_holds (pos 1) s k v apart quotient in
    let y = weight.mant *ℤ (pos 1 *ℤ pos (ten_above P)) in
    let p = square s * ten_below P in
    let p_some : 0 < p = mul-pos sq (ten_below_some P) in
    let digits : Holds (interval_scale weight.mant v) y p = holds_scale weight.mant v (pos 1 *ℤ pos (ten_above P)) p inner in
    let whole : TimesPower weight.mant (square s) (R +ℤ k) (x *ℤ pos (ten_above k)) (q * ten_below k) =
    times_then weight.mant x (x *ℤ pos (ten_above k)) (square s) q (q * ten_below k) R k some (over_power weight s x q over) (own_power x q k) in
    let part : TimesPower y p (neg_ℤ P) weight.mant (square s) = times_back weight.mant y (square s) p P (digits_power weight.mant (square s) P) in
    let both = times_then y weight.mant (x *ℤ pos (ten_above k)) p (square s) (q * ten_below k) (neg_ℤ P) (R +ℤ k) sq part whole in
    let left : neg_ℤ P +ℤ (R +ℤ k) ≡ weight.exp = omega (arith, ints) in
    let power = times_same y (x *ℤ pos (ten_above k)) p (q * ten_below k) (neg_ℤ P +ℤ (R +ℤ k)) weight.exp left both in
    subst (λ u. HoldsTimes u x q k) (sym is) (holds_power (interval_scale weight.mant v) y (x *ℤ pos (ten_above k)) p (q * ten_below k) weight.exp p_some power digits)
