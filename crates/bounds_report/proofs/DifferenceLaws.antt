-- The working differences, and one row more of them.
use Rattle.std.proofs.Common.{◌≡◌, ℕ, ◌+◌, ◌-◌, ◌^◌, ◌≤◌, ◌++◌, ◌∷◌, [], List, refl, ap, add-one, arith}
use Rattle.std.proofs.lemmas.List.{length_push}
use Rattle.whole_numbers.specs.Sum.{total_to}
use Rattle.whole_numbers.specs.Intervals.{Interval, size}
use Rattle.whole_numbers.proofs.Sums.{total_to_le}
use Rattle.bounds_report.specs.Differences.{difference_of, nth_entry, AreDifferencesOf}
use Rattle.bounds_report.specs.Residuals.{AreSmallIntervals}
use Rattle.bounds_report.specs.Rows.{RowLists}
use Rattle.whole_numbers.proofs.ListLaws.{each_push}

total_more : (n : ℕ) (f : ℕ → ℕ) → total_to (n + 1) f ≡ total_to n f + f n
total_more n f = rw add-one refl

-- what is left of 2^65 after one row more
pub room_more : (n : ℕ) (r : RowLists) (room m : ℕ) (z : Interval) → room + total_to n (λ j. size (difference_of r j)) ≡ 2 ^ 65 → size (difference_of r n) ≤ room → z ≡ difference_of r n → m ≡ size z
    → room - m + total_to (n + 1) (λ j. size (difference_of r j)) ≡ 2 ^ 65
room_more n r room m z left fits is e = omega (arith, total_more n (λ j. size (difference_of r j)), ap (λ v. size v) is)

pub differences_push : (n : ℕ) (r : RowLists) (zs : List Interval) (z : Interval) (room : ℕ) → AreDifferencesOf n r zs → room + total_to (n + 1) (λ j. size (difference_of r j)) ≡ 2 ^ 65 → z ≡ difference_of r n
    → AreDifferencesOf (n + 1) r (zs ++ z ∷ [])
differences_push n r zs z room done left is = record {
  len = omega (arith, length_push zs z, done.len);
  fit = omega arith;
  rows = each_push (λ k z. z ≡ difference_of r k) zs n z _ done.len done.rows is;
}

pub small_intervals : (n : ℕ) (r : RowLists) (zs : List Interval) → AreDifferencesOf n r zs → AreSmallIntervals n zs
small_intervals n r zs done = record {
  len = done.len;
  sum =
      let fit : total_to n (λ j. size (difference_of r j)) ≤ 2 ^ 65 = done.fit in
      omega (arith, fit, total_to_le n (λ j. size (nth_entry zs j)) (λ j. size (difference_of r j)) (λ j l. omega (arith, ap (λ v. size v) (done.rows j l))));
}
