-- What is left of a table, of a column and of a row on the way to a factor and to its inverse.
use Rattle.std.specs.Prelude.{◌+◌, ◌-◌, ◌^◌, ℕ, ℤ, pos, ◌-ℤ◌, unsigned_abs, cond, nat_le}
use Rattle.whole_numbers.specs.Sum.{sum_to, total_to, unit}
use Rattle.chol_factor.specs.Factor.{fixed_product}

-- the sum of h j over the j from k on and below n
abbrev pub tail : ℕ → ℕ → (ℕ → ℕ) → ℕ
tail n k h = total_to (n - k) (λ d. h (k + d))

-- what the first k columns of f leave of m at (i, j)
abbrev pub remaining : (ℕ → ℕ → ℤ) → (ℕ → ℕ → ℤ) → ℕ → ℕ → ℕ → ℤ
remaining m f k i j = m i j -ℤ sum_to k (λ q. fixed_product (f i q) (f j q))

-- the sizes that are left of row i, in sum
abbrev pub rest : ℕ → (ℕ → ℕ → ℤ) → (ℕ → ℕ → ℤ) → ℕ → ℕ → ℕ
rest n m f k i = tail n k (λ j. unsigned_abs (remaining m f k i j))

-- what the first k rows leave of 2^(g + 10) times the unit column c, in row i
abbrev pub remaining_forward : (ℕ → ℕ → ℤ) → ℕ → ℕ → (ℕ → ℤ) → ℕ → ℕ → ℤ
remaining_forward f g c u k i = unit c (pos (2 ^ (g + 10))) i -ℤ sum_to k (λ q. fixed_product (f i q) (u q))

-- the lower numbers of f, and 0 past the diagonal
abbrev pub lower : (ℕ → ℕ → ℤ) → ℕ → ℕ → ℤ
lower f i k = cond (nat_le k i) (f i k) (pos 0)
