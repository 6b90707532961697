-- The printed residual: what the estimates leave of the right side is at most it.
use Rattle.std.proofs.Common.{◌≡◌, ◌*◌, ◌≤◌, ◌<◌, ◌∙◌, ℕ, ℤ, pos, ◌+ℤ◌, ◌*ℤ◌, neg_ℤ, unsigned_abs, arith, sym, ap}
use Rattle.std.proofs.Math.IntN.{◌-ℤ◌}
use Rattle.std.proofs.Math.Nat.{mul-le-mul_right, le_of_mul-le-mul_left, mul-pos}
use Rattle.std.proofs.lemmas.Int.{ints, unsigned_abs-mul}
use Rattle.whole_numbers.specs.Intervals.{Interval, Holds, size, interval_sub, interval_mul, sum_intervals}
use Rattle.whole_numbers.proofs.EqualFractions.{holds_times}
use Rattle.whole_numbers.proofs.Fractions.{holds_mul}
use Rattle.whole_numbers.proofs.IntervalLaws.{holds_size, holds_sub, holds_sum}
use Rattle.sys_model.specs.Scaling.{IsRescaled, AreRescaled}
use Rattle.sys_model.specs.Systems.{System, Fractions, Table, LiesIn, row_by, residual}
use Rattle.sys_model.proofs.RescaledLaws.{residual_rescaled}
use Rattle.sys_model.proofs.ScalingLaws.{times_back, times_same}
use Rattle.whole_numbers.specs.Scaling.{ten_above, ten_below}

-- what the intervals z leave of the right side in row i
abbrev pub left_by : ℕ → Table → (ℕ → Interval) → ℕ → Interval
left_by n t z i = interval_sub (t.right i) (sum_intervals n (λ j. interval_mul (t.entry i j) (z j)))

abs_swapped : (a b : ℤ) → unsigned_abs (a -ℤ b) ≡ unsigned_abs (b -ℤ a)
abs_swapped a b = omega (arith, ints)

-- intervals that hold the fractions of y leave at least its residual
left_size : (n : ℕ) (t : Table) (T : System) (y : Fractions) (z : ℕ → Interval) (i : ℕ) → LiesIn n t T → ((j : ℕ) → j < n → Holds (z j) (y.x j) y.s) → i < n
    → unsigned_abs (residual n T y i) ≤ size (left_by n t z i) * (T.q * y.s)
left_size n t T y z i lies held row =
    let q = T.q * y.s in
    let sum = holds_sum n (λ j. interval_mul (t.entry i j) (z j)) (λ j. T.a i j *ℤ y.x j) q (λ j l. holds_mul (t.entry i j) (z j) (T.a i j) (y.x j) T.q y.s (lies.entries i j row l) (held j l)) in
    let right = holds_times (t.right i) (T.c i) T.q y.s (lies.rights i row) in
    let sized = holds_size (left_by n t z i) (T.c i *ℤ pos y.s -ℤ row_by n T.a i y.x) q (holds_sub (t.right i) (sum_intervals n (λ j. interval_mul (t.entry i j) (z j))) (T.c i *ℤ pos y.s) (row_by n T.a i y.x) q right sum) in
    rw (abs_swapped (row_by n T.a i y.x) (T.c i *ℤ pos y.s)) sized

-- a residual times a denominator that both sides have
cancelled : (left work size wq tb ta d : ℕ) → 0 < wq → left * (wq * tb) ≡ work * (d * ta) → work ≤ size * wq → left * tb ≤ (size * ta) * d
cancelled left work size wq tb ta d some is h =
    let m = mul-le-mul_right (d * ta) h in
    let scaled : wq * (left * tb) ≤ wq * ((size * ta) * d) = omega (arith, m, is) in
    le_of_mul-le-mul_left scaled some

-- W is the system S in the units of the working table, y the fractions v; the intervals z hold y
pub leaves_at_most : (n : ℕ) (w : Table) (e : ℕ → ℤ) (S W : System) (v y : Fractions) (z : ℕ → Interval) (i : ℕ) → IsRescaled n (pos 18) (pos 12) e S W → AreRescaled n (pos 12) e v y → LiesIn n w W
    → ((j : ℕ) → j < n → Holds (z j) (y.x j) y.s) → i < n
    → unsigned_abs (residual n S v i) * ten_below (e i -ℤ pos 30) ≤ (size (left_by n w z i) * ten_above (e i -ℤ pos 30)) * (S.q * v.s)
leaves_at_most n w e S W v y z i system numbers lies held row =
    let place = e i -ℤ pos 30 in
    let plain = residual n S v i in
    let work = residual n W y i in
    let q = S.q * v.s in
    let wq = W.q * y.s in
    let there = residual_rescaled n (pos 18) (pos 12) e S W v y i system numbers row in
    let back = times_same work plain wq q (neg_ℤ (pos 18 +ℤ pos 12 -ℤ e i)) place (omega (arith, ints)) (times_back plain work q wq (pos 18 +ℤ pos 12 -ℤ e i) there) in
    let sizes : unsigned_abs plain * (wq * ten_below place) ≡ unsigned_abs work * (q * ten_above place) =
    sym (unsigned_abs-mul plain (pos (wq * ten_below place))) ∙ ap unsigned_abs back ∙ unsigned_abs-mul work (pos (q * ten_above place)) in
    cancelled (unsigned_abs plain) (unsigned_abs work) (size (left_by n w z i)) wq (ten_below place) (ten_above place) q (mul-pos system.some numbers.some) sizes (left_size n w W y z i lies held row)
