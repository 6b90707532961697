-- Finite sums.
use Rattle.std.specs.Prelude.{ℕ, zero, suc, ℤ, pos, ◌+ℤ◌, ◌+◌, cond, eqb}

-- the sum of f k over the k below n
abbrev pub sum_to : ℕ → (ℕ → ℤ) → ℤ
sum_to zero f = pos 0
sum_to (suc n) f = sum_to n f +ℤ f n

-- the sum of f k over the k below n
abbrev pub total_to : ℕ → (ℕ → ℕ) → ℕ
total_to zero f = 0
total_to (suc n) f = total_to n f + f n

-- a at j = i, and 0 elsewhere
abbrev pub unit : ℕ → ℤ → ℕ → ℤ
unit i a j = cond (eqb j i) a (pos 0)
