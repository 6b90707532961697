-- How large the products of a row with the differences are, and their sums.
use Rattle.std.proofs.Common.{◌≡◌, ℕ, ◌+ℤ◌, ◌+◌, ◌*◌, ◌^◌, ◌≤◌, ◌<◌, List, FitsSigned, refl, add-one, arith}
use Rattle.std.specs.Int.{w128}
use Rattle.std.proofs.Math.Nat.{mul-le-mul_right}
use Rattle.std.proofs.lemmas.Int.{ints}
use Rattle.whole_numbers.specs.Sum.{total_to}
use Rattle.whole_numbers.specs.Intervals.{Interval, size, interval_add, interval_mul}
use Rattle.whole_numbers.proofs.Sizes.{product_le}
use Rattle.whole_numbers.proofs.Sums.{le-total_to, total_part}
use Rattle.sys_model.specs.Systems.{Table}
use Rattle.bounds_report.specs.Differences.{nth_entry}
use Rattle.bounds_report.specs.Residuals.{AreSmallIntervals, row_sum}

-- a product of an interval of the table and a difference
pub term_fits : (n j : ℕ) (zs : List Interval) (a z : Interval) → AreSmallIntervals n zs → j < n → size a ≤ 2 ^ 61 → z ≡ nth_entry zs j → size a * size z ≤ 2 ^ 126
term_fits n j zs a z small h l e =
    let f = le-total_to n (λ k. size (nth_entry zs k)) j h in
    let d : size z ≤ 2 ^ 65 = rw e (omega (arith, small.sum, f)) in
    omega (arith, product_le (size a) (2 ^ 61) (size z) (2 ^ 65) l d)

pub term_bound : (p a z : Interval) → size a ≤ 2 ^ 61 → size p ≤ size a * size z → size p ≤ 2 ^ 61 * size z
term_bound p a z h l = omega (arith, mul-le-mul_right (size z) h)

-- ---- one product more
pub sum_small : (n j : ℕ) (zs : List Interval) (s t : Interval) → AreSmallIntervals n zs → j < n → size s ≤ 2 ^ 61 * total_to j (λ k. size (nth_entry zs k)) → size t ≤ 2 ^ 61 * size (nth_entry zs j)
    → (size s + size t ≤ 2 ^ 61 * total_to (j + 1) (λ k. size (nth_entry zs k))) × (2 ^ 61 * total_to (j + 1) (λ k. size (nth_entry zs k)) ≤ 2 ^ 126)
sum_small n j zs s t small h l m =
    let more : total_to (j + 1) (λ k. size (nth_entry zs k)) ≡ total_to j (λ k. size (nth_entry zs k)) + size (nth_entry zs j) = rw add-one refl in
    let part = total_part n (λ k. size (nth_entry zs k)) (j + 1) (omega arith) in
    (omega (arith, more), omega (arith, part, small.sum))

pub sum_fits : (s t : Interval) → size s + size t ≤ 2 ^ 126 → FitsSigned w128 (s.lo +ℤ t.lo) × FitsSigned w128 (s.hi +ℤ t.hi)
sum_fits s t h = (omega (arith, ints), omega (arith, ints))

pub sum_size : (s t : Interval) → size (interval_add s t) ≤ size s + size t
sum_size s t = omega (arith, ints)

pub row_more : (j : ℕ) (t : Table) (zs : List Interval) (i : ℕ) (s p : Interval) → s ≡ row_sum j t zs i → p ≡ interval_mul (t.entry i j) (nth_entry zs j) → interval_add s p ≡ row_sum (j + 1) t zs i
row_more j t zs i s p e d = rw (e, d, add-one) refl
