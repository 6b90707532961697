-- Sums of products of two rows.
use Rattle.std.proofs.Common.{◌≡◌, ◌+◌, refl, ℕ, ℤ, ◌+ℤ◌, add-one}
use Rattle.whole_numbers.specs.Sum.{sum_to}

-- a sum with one more term
pub sum_more : (k : ℕ) (f : ℕ → ℤ) (s p : ℤ) → s ≡ sum_to k f → p ≡ f k → s +ℤ p ≡ sum_to (k + 1) f
sum_more k f s p e d = rw (e, d, add-one) refl
