-- What the law of the test speaks of on its way: products of matrices, and distances from the vector.
use Rattle.std.specs.Prelude.{ℕ, ℤ, pos, ◌-ℤ◌, ◌*ℤ◌, unsigned_abs}
use Rattle.whole_numbers.specs.Sum.{sum_to, unit}
use Rattle.sys_model.specs.Systems.{System, Fractions}

-- the product of two matrices at (i, j)
abbrev pub product_at : ℕ → (ℕ → ℕ → ℤ) → (ℕ → ℕ → ℤ) → ℕ → ℕ → ℤ
product_at n r a i j = sum_to n (λ k. r i k *ℤ a k j)

-- p on the diagonal minus the product of r and a, at (i, j)
abbrev pub defect_at : ℕ → ℤ → (ℕ → ℕ → ℤ) → (ℕ → ℕ → ℤ) → ℕ → ℕ → ℤ
defect_at n p r a i j = unit i p j -ℤ product_at n r a i j

-- what the whole numbers y leave of the right side in row k, over the system's denominator
abbrev pub left_at : ℕ → System → (ℕ → ℤ) → ℕ → ℤ
left_at n S y k = S.c k -ℤ sum_to n (λ j. y j *ℤ S.a k j)

-- how far v is from y in row i, over v's denominator
abbrev pub distance : Fractions → (ℕ → ℤ) → ℕ → ℕ
distance v y i = unsigned_abs (v.x i -ℤ y i *ℤ pos v.s)
