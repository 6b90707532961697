-- The scaled differences: one row more of them, and the first row with which their sizes pass the bound.
use Rattle.std.proofs.Common.{◌≡◌, ◌≤◌, ◌<◌, ◌+◌, ◌-◌, ◌^◌, ◌++◌, ◌∷◌, [], ℕ, suc, ℤ, List, arith, ap, refl, add-one}
use Rattle.std.proofs.lemmas.List.{length_push}
use Rattle.stated_order.specs.First.{HoldsBelow}
use Rattle.whole_numbers.specs.Sum.{total_to}
use Rattle.whole_numbers.specs.Intervals.{Interval, size}
use Rattle.whole_numbers.proofs.ListLaws.{each_push}
use Rattle.whole_numbers.proofs.Sums.{total_part, total_to_le}
use Rattle.difference_products.specs.Parts.{interval_of, scaled_of, SizesFit, AreScaledTo, IsFirstFar, AreSmall}

-- with fewer of them the sum is in its bound too
pub fewer_fit : (n : ℕ) (ds : List Interval) (ts es : List ℤ) → SizesFit ds ts es n → HoldsBelow n (λ j. SizesFit ds ts es (suc j))
fewer_fit n ds ts es fit j column = omega (arith, total_part n (λ k. size (scaled_of ds ts es k)) (suc j) column)

-- the next one is greater than what is left of the bound
pub first_far : (n : ℕ) (ds : List Interval) (ts es : List ℤ) (zs : List Interval) (row room : ℕ) → row < n → AreScaledTo row ds ts es zs → room + total_to row (λ j. size (scaled_of ds ts es j)) ≡ 2 ^ 64
    → ¬ (size (scaled_of ds ts es row) ≤ room) → IsFirstFar n ds ts es row
first_far n ds ts es zs row room within done left far = record {
  within = within;
  before = fewer_fit row ds ts es done.fit;
  fails = λ h. far (omega (arith, h, left));
}

-- what is left after one row more
pub room_more : (n : ℕ) (ds : List Interval) (ts es : List ℤ) (room m : ℕ) (z : Interval) → room + total_to n (λ j. size (scaled_of ds ts es j)) ≡ 2 ^ 64 → size (scaled_of ds ts es n) ≤ room → z ≡ scaled_of ds ts es n → m ≡ size z
    → room - m + total_to (n + 1) (λ j. size (scaled_of ds ts es j)) ≡ 2 ^ 64
room_more n ds ts es room m z left fits is e =
    let more : total_to (n + 1) (λ j. size (scaled_of ds ts es j)) ≡ total_to n (λ j. size (scaled_of ds ts es j)) + size (scaled_of ds ts es n) = rw add-one refl in
    omega (arith, more, ap (λ v. size v) is)

pub scaled_push : (n : ℕ) (ds : List Interval) (ts es : List ℤ) (zs : List Interval) (z : Interval) (room : ℕ) → AreScaledTo n ds ts es zs → room + total_to (n + 1) (λ j. size (scaled_of ds ts es j)) ≡ 2 ^ 64 → z ≡ scaled_of ds ts es n
    → AreScaledTo (n + 1) ds ts es (zs ++ z ∷ [])
scaled_push n ds ts es zs z room done left is = record {
  len = omega (arith, length_push zs z, done.len);
  fit = omega arith;
  each = each_push (λ k z. z ≡ scaled_of ds ts es k) zs n z _ done.len done.each is;
}

pub scaled_small : (n : ℕ) (ds : List Interval) (ts es : List ℤ) (zs : List Interval) → AreScaledTo n ds ts es zs → AreSmall n zs
scaled_small n ds ts es zs done = record {
  len = done.len;
  sum =
      let fit : total_to n (λ j. size (scaled_of ds ts es j)) ≤ 2 ^ 64 = done.fit in
      omega (arith, fit, total_to_le n (λ j. size (interval_of zs j)) (λ j. size (scaled_of ds ts es j)) (λ j l. omega (arith, ap (λ v. size v) (done.each j l))));
}
