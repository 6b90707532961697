-- Sums over parts of a range.
use Rattle.std.proofs.Common.{◌≡◌, ◌≤◌, ◌<◌, ◌+◌, ◌-◌, ◌∙◌, ℕ, zero, suc, ℤ, pos, ◌+ℤ◌, arith, ap}
use Rattle.std.proofs.lemmas.Int.{ints}
use Rattle.whole_numbers.specs.Sum.{sum_to}
use Rattle.whole_numbers.proofs.Sums.{sum_to_same, sum_to-zero}

pub sum_to_split : (a b : ℕ) (h : ℕ → ℤ) → sum_to (a + b) h ≡ sum_to a h +ℤ sum_to b (λ k. h (a + k))
sum_to_split a zero h = let e : a + 0 ≡ a = omega arith in ap (λ m. sum_to m h) e ∙ omega (arith, ints)
sum_to_split a (suc b) h =
    let e : a + suc b ≡ suc (a + b) = omega arith in
    ap (λ m. sum_to m h) e ∙ omega (arith, ints, sum_to_split a b h)

pub sum_to_none : (n : ℕ) (h : ℕ → ℤ) → ((k : ℕ) → k < n → h k ≡ pos 0) → sum_to n h ≡ pos 0
sum_to_none n h none = sum_to_same n h (λ k. pos 0) none ∙ sum_to-zero n

-- where the terms before c are 0, a sum is that over the rest
pub sum_to_from : (c i : ℕ) (h : ℕ → ℤ) → c ≤ i → ((k : ℕ) → k < c → h k ≡ pos 0) → sum_to i h ≡ sum_to (i - c) (λ k. h (c + k))
sum_to_from c i h le none =
    let e : i ≡ c + (i - c) = omega arith in
    ap (λ m. sum_to m h) e ∙ sum_to_split c (i - c) h ∙ omega (arith, ints, sum_to_none c h none)
