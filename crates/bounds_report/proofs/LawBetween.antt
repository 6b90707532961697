-- The printed bounds: what lies around y in units of 10^-(12 + e) lies, added to x0, between them.
use Rattle.std.proofs.Common.{◌≡◌, ◌^◌, ◌<◌, ℕ, ℤ, pos, ◌+ℤ◌, ◌*ℤ◌, arith}
use Rattle.std.proofs.Math.IntN.{◌-ℤ◌}
use Rattle.std.proofs.lemmas.Int.{ints}
use Rattle.whole_numbers.specs.Intervals.{Holds}
use Rattle.whole_numbers.specs.Scaling.{interval_scale10}
use Rattle.whole_numbers.proofs.EqualFractions.{holds_sum_of}
use Rattle.whole_numbers.proofs.Ring.{ring}
use Rattle.decimal_e.specs.Decimals.{Decimal}
use Rattle.decimal_e.specs.Fractions.{numerator, denominator}
use Rattle.decimal_e.specs.Scales.{decimal_interval}
use Rattle.sys_model.specs.Systems.{around}
use Rattle.sys_model.specs.Scaling.{TimesPower}
use Rattle.bounds_report.specs.Bounds.{LiesBetween}
use Rattle.bounds_report.specs.Printing.{lower_of, upper_of}
use Rattle.bounds_report.specs.declared.numbers.Printed.{Printed}
use Rattle.bounds_report.proofs.LawIntervals.{holds_to_power, decimal_interval_holds}

scale_sum : (a x : ℤ) (t s d : ℕ) → (a *ℤ pos t) *ℤ pos s +ℤ (x *ℤ pos t) *ℤ pos d ≡ pos t *ℤ (a *ℤ pos s +ℤ x *ℤ pos d)
scale_sum a x t s d = simp ring (omega (arith, ints))

-- the bounds are the ends of the sum of the intervals of x0 and of what lies around y; z / q is x / s times 10^(12 + e)
pub lies_between : (x0 : Decimal) (e y : ℤ) (r : ℕ) (x z : ℤ) (s q : ℕ) (p : Printed) → 0 < s → 0 < q → p.lower ≡ lower_of x0 e y r → p.upper ≡ upper_of x0 e y r
    → TimesPower x s (pos 12 +ℤ e) z q → Holds (around y r) z q → LiesBetween p x0 x s
lies_between x0 e y r x z s q p some any lo hi t h =
    let start = decimal_interval_holds x0 16 in
    let near = holds_to_power (around y r) x z s q 16 (pos 12 +ℤ e) (pos 4 -ℤ e) (omega (arith, ints)) some any t h in
    let all = holds_sum_of (decimal_interval x0 (pos 16)) (interval_scale10 (around y r) (pos 4 -ℤ e)) (numerator x0 *ℤ pos (10 ^ 16)) (x *ℤ pos (10 ^ 16)) (denominator x0) s start near in
    let sum = scale_sum (numerator x0) x (10 ^ 16) s (denominator x0) in
    record { above = rw (lo, ← sum) all.above; below = rw (hi, ← sum) all.below }
