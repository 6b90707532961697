-- The differences of the printed estimates from the a priori values: what intervals hold them, and their fractions over one denominator.
use Rattle.std.proofs.Common.{◌≡◌, ◌*◌, ◌^◌, ◌≤◌, ◌<◌, ◌∙◌, ℕ, zero, suc, ℤ, pos, ◌+ℤ◌, ◌*ℤ◌, neg_ℤ, Bool, true, false, arith, refl, sym, ap, subst}
use Rattle.std.specs.Prelude.{nat_le, if◌then◌else◌}
use Rattle.std.proofs.Math.IntN.{◌-ℤ◌}
use Rattle.std.proofs.Math.Nat.{mul-pos}
use Rattle.std.proofs.Math.Decide.{ℕ_discrete}
use Rattle.std.proofs.lemmas.Int.{ints}
use Rattle.std.proofs.lemmas.Bool.Decides.{nat_tests}
use Rattle.whole_numbers.specs.Intervals.{Interval, Holds, size, point_interval, interval_sub}
use Rattle.whole_numbers.proofs.EqualFractions.{holds_same, holds_difference_of}
use Rattle.whole_numbers.proofs.Powers as Powers
use Rattle.whole_numbers.proofs.Ring.{ring, *ℤ_assoc, *ℤ_right_comm}
use Rattle.whole_numbers.proofs.IntervalLaws.{holds_point}
use Rattle.decimal_e.specs.Decimals.{Decimal}
use Rattle.decimal_e.specs.Fractions.{numerator, denominator}
use Rattle.decimal_e.specs.Scales.{decimal_interval}
use Rattle.decimal_e.proofs.Values.{ten_below_some}
use Rattle.sys_model.specs.Systems.{Fractions}
use Rattle.sys_model.proofs.Exist.{with_last, at_last, at_other}
use Rattle.sys_model.specs.Scaling.{TimesPower}
use Rattle.sys_model.proofs.ScalingLaws.{times_then, times_back, times_same, times_raised, holds_power}
use Rattle.bounds_report.specs.Bounds.{AreDifferences}
use Rattle.bounds_report.specs.Printing.{difference, estimate_of, working_difference}
use Rattle.bounds_report.specs.declared.numbers.Printed.{Printed}
use Rattle.bounds_report.proofs.LawIntervals.{decimal_interval_holds}

-- how far the estimate is from x0, over 10^16 times the denominator of x0
abbrev pub away : Decimal → ℤ → ℤ
away x0 v = v *ℤ pos (denominator x0) -ℤ numerator x0 *ℤ pos (10 ^ 16)

-- ---- the interval of a difference
far_crossed : (v a : ℤ) (d t k : ℕ) → ((v *ℤ pos k) *ℤ pos 1) *ℤ pos d -ℤ (a *ℤ pos (t * k)) *ℤ pos 1 ≡ (v *ℤ pos d -ℤ a *ℤ pos t) *ℤ pos k
far_crossed v a d t k =
    let l : (v *ℤ pos k) *ℤ pos 1 ≡ v *ℤ pos k = omega (arith, ints) in
    let r : (a *ℤ pos (t * k)) *ℤ pos 1 ≡ a *ℤ pos (t * k) = omega (arith, ints) in
    rw (l, r) (simp ring (omega (arith, ints)))

-- whether the interval has the ends v
abbrev is_exactly : Interval → ℤ → Bool
is_exactly w v = nat_le (size (interval_sub w (point_interval v))) 0

none_left : (w : Interval) (v : ℤ) → is_exactly w v ≡ true → (w.lo ≡ v) × (w.hi ≡ v)
none_left w v t = let z : size (interval_sub w (point_interval v)) ≤ 0 = le_from_true _ 0 t in (omega (arith, ints), omega (arith, ints))
  where
    le_from_true : (a b : ℕ) → nat_le a b ≡ true → a ≤ b
    le_from_true a b t = grind (arith, nat_tests)

exactly_zero : (w : Interval) (v x : ℤ) (q : ℕ) → is_exactly w v ≡ true → Holds w x q → v *ℤ pos q -ℤ x ≡ pos 0
exactly_zero w v x q t h =
    let e = none_left w v t in
    let l = ap (λ z. z *ℤ pos q) e.0 in
    let r = ap (λ z. z *ℤ pos q) e.1 in
    omega (arith, ints, l, r, h.above, h.below)

holds_choice : (b : Bool) (w v : Interval) (x : ℤ) (q : ℕ) → (b ≡ true → Holds w x q) → (b ≡ false → Holds v x q) → Holds (if b then w else v) x q
holds_choice true w v x q h k = h refl
holds_choice false w v x q h k = k refl

-- the interval of the difference holds it at 10^20
difference_holds : (x0 : Decimal) (v : ℤ) → Holds (difference x0 v) (away x0 v *ℤ pos (10 ^ 4)) (denominator x0)
difference_holds x0 v =
    let d = denominator x0 in
    let none = point_interval (pos 0) in
    let far = interval_sub (point_interval (v *ℤ pos (10 ^ 4))) (decimal_interval x0 (pos 20)) in
    holds_choice (is_exactly (decimal_interval x0 (pos 16)) v) none far (away x0 v *ℤ pos (10 ^ 4)) d
    (λ t. let z = ap (λ y. y *ℤ pos (10 ^ 4)) (exactly_zero (decimal_interval x0 (pos 16)) v (numerator x0 *ℤ pos (10 ^ 16)) d t (decimal_interval_holds x0 16)) in
    subst (λ y. Holds none y d) (sym z) (record { above = omega (arith, ints); below = omega (arith, ints) }))
    (λ t. let h = holds_difference_of (point_interval (v *ℤ pos (10 ^ 4))) (decimal_interval x0 (pos 20)) ((v *ℤ pos (10 ^ 4)) *ℤ pos 1) (numerator x0 *ℤ pos (10 ^ 20)) 1 d (holds_point (v *ℤ pos (10 ^ 4)) 1) (decimal_interval_holds x0 20) in
    let one : 1 * d ≡ d = omega arith in
    subst (λ y. Holds far y d) (far_crossed v (numerator x0) d (10 ^ 16) (10 ^ 4)) (rw one at h))

-- the same fraction over another denominator
moved_over : (z x : ℤ) (d t s k : ℕ) → x *ℤ pos (d * t) ≡ z *ℤ pos s → (z *ℤ pos k) *ℤ pos s ≡ (x *ℤ pos (t * k)) *ℤ pos d
moved_over z x d t s k h = *ℤ_right_comm z (pos k) (pos s) ∙ ap (λ y. y *ℤ pos k) (sym h) ∙ regrouped x (pos d) (pos t) (pos k)
  where
    regrouped : (x d t k : ℤ) → (x *ℤ (d *ℤ t)) *ℤ k ≡ (x *ℤ (t *ℤ k)) *ℤ d
    regrouped x d t k = simp ring

-- in the unit of the working table, of the fraction x / s that is the difference; u / q is x / s times 10^(12 + e)
pub working_holds : (x0 : Decimal) (e y x u : ℤ) (s q : ℕ) → 0 < s → x *ℤ pos (denominator x0 * 10 ^ 16) ≡ away x0 (estimate_of x0 e y) *ℤ pos s
    → TimesPower x s (pos 12 +ℤ e) u q → Holds (working_difference x0 e y) u q
working_holds x0 e y x u s q some h t =
    let v = estimate_of x0 e y in
    let d = denominator x0 in
    let at_20 = holds_same (difference x0 v) (away x0 v *ℤ pos (10 ^ 4)) (x *ℤ pos (10 ^ 20)) d s (ten_below_some x0.exp) (moved_over (away x0 v) x d (10 ^ 16) s (10 ^ 4) h) (difference_holds x0 v) in
    let back = times_back x (x *ℤ pos (10 ^ 20)) s s (pos 20) (times_raised x s 20) in
    let there = times_then (x *ℤ pos (10 ^ 20)) x u s s q (neg_ℤ (pos 20)) (pos 12 +ℤ e) some back t in
    holds_power (difference x0 v) (x *ℤ pos (10 ^ 20)) u s q (e -ℤ pos 8) some (times_same (x *ℤ pos (10 ^ 20)) u s q (neg_ℤ (pos 20) +ℤ (pos 12 +ℤ e)) (e -ℤ pos 8) (omega (arith, ints)) there) at_20

-- ---- one denominator
-- the fractions a_i / d_i of the i below n, over one denominator
record HasOneDenominator (n : ℕ) (a : ℕ → ℤ) (d : ℕ → ℕ) : Type 0 where
  pub v : Fractions
  pub some : 0 < v.s
  pub rows : (i : ℕ) → i < n → v.x i *ℤ pos (d i) ≡ a i *ℤ pos v.s

times_more : (x a : ℤ) (d s m : ℕ) → x *ℤ pos d ≡ a *ℤ pos s → (x *ℤ pos m) *ℤ pos d ≡ a *ℤ pos (s * m)
times_more x a d s m h =
    let l : (x *ℤ pos m) *ℤ pos d ≡ (x *ℤ pos d) *ℤ pos m = simp ring in
    l ∙ ap (λ z. z *ℤ pos m) h ∙ *ℤ_assoc a (pos s) (pos m)

over_one : (n : ℕ) (a : ℕ → ℤ) (d : ℕ → ℕ) → ((i : ℕ) → 0 < d i) → HasOneDenominator n a d
over_one zero a d some = record { v = record { s = 1; x = λ i. pos 0 }; some = omega arith; rows = λ i l. absurd (omega arith) }
over_one (suc n) a d some =
    let r = over_one n a d some in
    let f = λ (i : ℕ). r.v.x i *ℤ pos (d n) in
    record {
      v = record { s = r.v.s * d n; x = with_last n f (a n *ℤ pos r.v.s) };
      some = mul-pos r.some (some n);
      rows = λ i l. elim (ℕ_discrete i n) [
        | yes e ↦ ap (λ z. z *ℤ pos (d i)) (ap (with_last n f (a n *ℤ pos r.v.s)) e ∙ at_last n f (a n *ℤ pos r.v.s)) ∙ ap (λ k. (a n *ℤ pos r.v.s) *ℤ pos (d k)) e ∙ *ℤ_assoc (a n) (pos r.v.s) (pos (d n)) ∙ ap (λ k. a k *ℤ pos (r.v.s * d n)) (sym e)
        | no e ↦ let below : i < n = omega arith in
            ap (λ z. z *ℤ pos (d i)) (at_other n f (a n *ℤ pos r.v.s) i below) ∙ times_more (r.v.x i) (a i) (d i) r.v.s (d n) (r.rows i below)
      ];
    }

-- the differences are fractions over one denominator
pub differences_exist : (n : ℕ) (x0 : ℕ → Decimal) (p : ℕ → Printed) → (v : Fractions) × AreDifferences n x0 p v
differences_exist n x0 p =
    let r = over_one n (λ i. away (x0 i) (p i).estimate) (λ i. denominator (x0 i) * 10 ^ 16) (λ i. mul-pos (ten_below_some (x0 i).exp) (Powers.ten_pow_above 16)) in
    (r.v, record { some = r.some; rows = r.rows })
