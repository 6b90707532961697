-- Sums of products with narrow intervals, and the parts of a certificate.
use Rattle.std.proofs.Common.{◌≡◌, ℕ, zero, suc, pos, negsuc, ℤ, ◌+ℤ◌, ◌*ℤ◌, arith, ap, ◌≤◌, ◌<◌, ◌*◌, ◌+◌, ◌^◌, unsigned_abs, min}
use Rattle.std.proofs.Math.IntN.{◌-ℤ◌}
use Rattle.std.proofs.Math.Nat.{pow-le-pow_right, lt_of_mul-lt-mul_right}
use Rattle.std.proofs.lemmas.Int.{ints}
use Rattle.std.proofs.lemmas.Grind.{div_ceil_times}
use Rattle.whole_numbers.specs.Sum.{sum_to, total_to}
use Rattle.whole_numbers.specs.Quotients.{up_over}
use Rattle.whole_numbers.specs.Intervals.{Interval, interval_scale, sum_intervals}
use Rattle.whole_numbers.proofs.Ring.{ring}
use Rattle.whole_numbers.proofs.Sums.{total_to-bound}
use Rattle.whole_numbers.proofs.IntervalLaws.{floor_over_le, lt-floor_over, two_pow_above, mul-mono_left, mul-anti_left}
use Rattle.sys_model.specs.Systems.{Table, defect_size}
use Rattle.whole_numbers.specs.Intervals.{midpoint}
use Rattle.enclosures.specs.Pilots.{PilotTable, pilot_entry}
use Rattle.chol_guess.specs.Pilots.{IsPilot}
use Rattle.enclosure_check.specs.Certificates.{parts_of, IsDefect}
use Rattle.dominant_laws.specs.Dominant.{IsNarrow}
use Rattle.dominant_laws.proofs.Conditions.{IsDominantTable}
use Rattle.dominant_laws.proofs.ColumnBounds.{scale_great}
use Rattle.dominant_laws.proofs.PilotByTable.{other_defect_small}

-- ---- narrow intervals
pub midpoint_narrow : (w : Interval) → IsNarrow w → midpoint w ≡ w.lo
midpoint_narrow w t =
    let a = floor_over_le (w.lo +ℤ w.hi) 2 (omega arith) in
    let b = lt-floor_over (w.lo +ℤ w.hi) 2 (omega arith) in
    omega (arith, ints, a, b, t.ordered, t.width)

-- both ends are within d of z
pub record AreNear (w : Interval) (z : ℤ) (d : ℕ) : Type 0 where
  pub low : unsigned_abs (w.lo -ℤ z) ≤ d
  pub high : unsigned_abs (w.hi -ℤ z) ≤ d

scale_narrow : (r : ℤ) (w : Interval) → IsNarrow w → AreNear (interval_scale r w) (r *ℤ midpoint w) (unsigned_abs r)
scale_narrow (pos k) w t =
    let e = ap (λ z. pos k *ℤ z) (midpoint_narrow w t) in
    let low = mul-mono_left w.lo w.hi k t.ordered in
    let high = mul-mono_left w.hi (w.lo +ℤ pos 1) k t.width in
    let one : pos k *ℤ (w.lo +ℤ pos 1) ≡ pos k *ℤ w.lo +ℤ pos k = simp ring (omega (arith, ints)) in
    record { low = omega (arith, ints, e); high = omega (arith, ints, e, low, high, one) }
scale_narrow (negsuc k) w t =
    let e = ap (λ z. negsuc k *ℤ z) (midpoint_narrow w t) in
    let low = mul-anti_left w.lo w.hi k t.ordered in
    let high = mul-anti_left w.hi (w.lo +ℤ pos 1) k t.width in
    let one : negsuc k *ℤ (w.lo +ℤ pos 1) ≡ negsuc k *ℤ w.lo +ℤ negsuc k = simp ring (omega (arith, ints)) in
    record { low = omega (arith, ints, e, low, high, one); high = omega (arith, ints, e) }

pub sum_narrow : (n : ℕ) (r : ℕ → ℤ) (w : ℕ → Interval) → ((k : ℕ) → k < n → IsNarrow (w k)) → AreNear (sum_intervals n (λ k. interval_scale (r k) (w k))) (sum_to n (λ k. r k *ℤ midpoint (w k))) (total_to n (λ k. unsigned_abs (r k)))
sum_narrow zero r w narrow = record { low = omega (arith, ints); high = omega (arith, ints) }
sum_narrow (suc n) r w narrow =
    let before = sum_narrow n r w (λ k l. narrow k (omega arith)) in
    let here = scale_narrow (r n) (w n) (narrow n (omega arith)) in
    record { low = omega (arith, ints, before.low, here.low); high = omega (arith, ints, before.high, here.high) }

-- ---- the parts
pub up_over_small : (x d a : ℕ) → 0 < d → x ≤ a * d → up_over x d ≤ a
up_over_small x d a some h =
    let t = (div_ceil_times x d some).1 in
    let l : up_over x d * d < suc a * d = omega (arith, t, h) in
    omega (arith, lt_of_mul-lt-mul_right d l)

pub pilot_small : (n : ℕ) (m : ℕ → ℕ → ℤ) (p : PilotTable) (i c : ℕ) → IsPilot n m p → i < n → c < n → unsigned_abs (pilot_entry p i c) ≤ 2 ^ 50
pilot_small n m p i c a row inside =
    let x = a.columns c inside in
    let z = x.0 i +ℤ pos 512 in
    let low = floor_over_le z 1024 (omega arith) in
    let high = lt-floor_over z 1024 (omega arith) in
    omega (arith, ints, x.1.1 i row, x.1.0.down.fits i row, low, high)

defect_size_small : (n : ℕ) (t : Table) (p : PilotTable) (i j : ℕ) → IsDominantTable n t → IsPilot n (λ i j. midpoint (t.entry i j)) p → i < n → j < n → defect_size n (2 ^ (p.g + 60)) (pilot_entry p) t i j ≤ 2 ^ 82
defect_size_small n t p i j d a row column =
    let near = sum_narrow n (pilot_entry p i) (λ k. t.entry k j) (λ k l. d.narrow k j l column) in
    let other = other_defect_small n (λ i j. midpoint (t.entry i j)) p i j d.table a row column in
    let total = total_to-bound n (λ k. unsigned_abs (pilot_entry p i k)) (2 ^ 50) (λ k l. pilot_small n (λ i j. midpoint (t.entry i j)) p i k a row l) in
    let few = d.table.few in
    omega (arith, ints, near.low, near.high, other, total, few)

pub parts_small : (n : ℕ) (t : Table) (p : PilotTable) (i : ℕ) → IsDominantTable n t → IsPilot n (λ i j. midpoint (t.entry i j)) p → i < n → parts_of n t p i ≤ 2 ^ 22
parts_small n t p i d a row =
    let P = 2 ^ (p.g + 60) in
    let c = total_to-bound n (λ j. min (defect_size n P (pilot_entry p) t i j) P) (2 ^ 82) (λ j l. omega (arith, defect_size_small n t p i j d a row l)) in
    let g = scale_great n (λ i j. midpoint (t.entry i j)) p d.table a in
    let power = pow-le-pow_right {n = 2} (omega arith) {i = 70} {j = p.g + 30} (omega (arith, g)) in
    up_over_small _ (2 ^ (p.g + 30)) (2 ^ 22) (two_pow_above (p.g + 30)) (omega (arith, c, d.table.few, power))

pub no_defect_great : (n : ℕ) (t : Table) (p : PilotTable) (y : ℕ → ℤ) (row parts : ℕ) → IsDominantTable n t → IsPilot n (λ i j. midpoint (t.entry i j)) p → ¬ (IsDefect n t p y row parts)
no_defect_great n t p y row parts d a r = absurd (omega (arith, r.here, r.past, parts_small n t p row d a r.within))
