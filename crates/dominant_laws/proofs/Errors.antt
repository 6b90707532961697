-- The errors of a dominant table are small.
use Rattle.std.proofs.Common.{ℕ, ℤ, arith, ◌≤◌, ◌<◌, ◌*◌, ◌+◌, ◌-◌, ◌^◌}
use Rattle.std.proofs.Math.Decide.{dec_lt}
use Rattle.std.proofs.Math.Nat.{pow-le-pow_right}
use Rattle.std.proofs.lemmas.Int.{ints}
use Rattle.whole_numbers.specs.Intervals.{size, interval_scale, interval_shift, sum_intervals}
use Rattle.whole_numbers.proofs.Sizes.{size_scale, size_shift, size_sum_by}
use Rattle.whole_numbers.proofs.Sums.{total_to-bound}
use Rattle.whole_numbers.proofs.IntervalLaws.{two_pow_above}
use Rattle.sys_model.specs.Systems.{Table, residual_interval}
use Rattle.whole_numbers.specs.Intervals.{midpoint}
use Rattle.enclosures.specs.Pilots.{PilotTable, pilot_entry}
use Rattle.chol_guess.specs.Pilots.{IsPilot}
use Rattle.stated_order.specs.First.{IsLeast}
use Rattle.enclosure_check.specs.Certificates.{ResidualFitsAfter, error_of, IsResidual}
use Rattle.enclosure_check.specs.Vectors.{IsStartVector}
use Rattle.dominant_laws.proofs.Conditions.{IsDominantTable}
use Rattle.dominant_laws.proofs.TableByPilot.{turned}
use Rattle.dominant_laws.proofs.ColumnBounds.{scale_great}
use Rattle.dominant_laws.proofs.NarrowIntervals.{midpoint_narrow, sum_narrow, up_over_small, pilot_small}
use Rattle.dominant_laws.proofs.Refinements.{refinements_small, total_small}

residual_small : (n : ℕ) (t : Table) (p : PilotTable) (y : ℕ → ℤ) (i : ℕ) → IsDominantTable n t → IsPilot n (λ i j. midpoint (t.entry i j)) p → IsStartVector n t p y → i < n → size (residual_interval n t y i) ≤ 2 ^ 84
residual_small n t p y i d a start row =
    let after = refinements_small 3 n t p y d a start.refinements in
    let near = sum_narrow n y (t.entry i) (λ k l. d.narrow i k row l) in
    let total = total_small n 3 n t y d.table.few (omega arith) (omega arith) after in
    let swapped = turned n y (λ j. midpoint (t.entry i j)) in
    let left = after.later (omega arith) i row in
    let narrow = d.narrow_right i row in
    omega (arith, ints, near.low, near.high, total, swapped, left, midpoint_narrow (t.right i) narrow, narrow.ordered, narrow.width)

errors_shift : (n : ℕ) (t : Table) (p : PilotTable) (y : ℕ → ℤ) (h : ℕ) → IsDominantTable n t → IsPilot n (λ i j. midpoint (t.entry i j)) p → IsStartVector n t p y → IsLeast (ResidualFitsAfter n t y) h → h ≤ 18
errors_shift n t p y h d a start least =
    elim (dec_lt 18 h) [
      | yes l ↦ absurd (least.before 18 l (λ i row. size_shift 18 (residual_interval n t y i) (2 ^ 66) (omega (arith, residual_small n t p y i d a start row))))
      | no l ↦ omega arith
    ]

pub error_small : (n : ℕ) (t : Table) (p : PilotTable) (y : ℕ → ℤ) (h i : ℕ) → IsDominantTable n t → IsPilot n (λ i j. midpoint (t.entry i j)) p → IsStartVector n t p y → IsLeast (ResidualFitsAfter n t y) h → i < n → error_of n t p y h i ≤ 2 ^ 44
error_small n t p y h i d a start least row =
    let shift = errors_shift n t p y h d a start least in
    let w = λ (k : ℕ). interval_scale (pilot_entry p i k) (interval_shift h (residual_interval n t y k)) in
    let s = size_sum_by n w in
    let each = total_to-bound n (λ k. size (w k)) (2 ^ 50 * 2 ^ 66) (λ k l. size_scale (pilot_entry p i k) (interval_shift h (residual_interval n t y k)) (2 ^ 50) (2 ^ 66) (pilot_small n (λ i j. midpoint (t.entry i j)) p i k a row l) (least.here k l)) in
    let g = scale_great n (λ i j. midpoint (t.entry i j)) p d.table a in
    let power = pow-le-pow_right {n = 2} (omega arith) {i = 82} {j = p.g + 60 - h} (omega (arith, g, shift)) in
    up_over_small (size (sum_intervals n w)) (2 ^ (p.g + 60 - h)) (2 ^ 44) (two_pow_above (p.g + 60 - h)) (omega (arith, s, each, power, d.table.few))

pub no_residual_great : (n : ℕ) (t : Table) (p : PilotTable) (y : ℕ → ℤ) (row error : ℕ) → IsDominantTable n t → IsPilot n (λ i j. midpoint (t.entry i j)) p → IsStartVector n t p y → ¬ (IsResidual n t p y row error)
no_residual_great n t p y row error d a start r = absurd (omega (arith, r.here, r.past, error_small n t p y r.h row d a start r.shift r.within))
