-- The factor of a symmetric table of whole numbers: a lower triangle whose product with its own transpose comes near the
-- table (Cholesky). All of it is in units of 2^-60, and each product and quotient is rounded down. No law rests on how
-- near it comes.
use Rattle.std.specs.Prelude.{◌≡◌, ◌≤◌, ◌<◌, ◌^◌, ℕ, suc, ℤ, pos, ◌+ℤ◌, ◌-ℤ◌, ◌*ℤ◌, ◌≤ℤ◌, ◌<ℤ◌, unsigned_abs}
use Rattle.whole_numbers.specs.Sum.{sum_to}
use Rattle.whole_numbers.specs.Quotients.{floor_over}
use Rattle.whole_numbers.specs.Lists.{AllAtMost}
use Rattle.whole_numbers.specs.Squares.{SquareTable, square_at}

-- a * b / 2^60
abbrev pub fixed_product : ℤ → ℤ → ℤ
fixed_product a b = floor_over (a *ℤ b) (2 ^ 60)

-- a * 2^60 / b, for b above 0
abbrev pub fixed_quotient : ℤ → ℤ → ℤ
fixed_quotient a b = floor_over (a *ℤ pos (2 ^ 60)) (unsigned_abs b)

-- the square root of a * 2^60
pub record IsRoot (a root : ℤ) : Type 0 where
  pub least : pos 0 ≤ℤ root
  pub square_le : (root *ℤ root) ≤ℤ (a *ℤ pos (2 ^ 60))
  pub next_square_gt : (a *ℤ pos (2 ^ 60)) <ℤ ((root +ℤ pos 1) *ℤ (root +ℤ pos 1))

-- what the columns before column j leave of m at (i, j)
abbrev pub left_of : (ℕ → ℕ → ℤ) → (ℕ → ℕ → ℤ) → ℕ → ℕ → ℤ
left_of m f i j = m i j -ℤ sum_to j (λ k. fixed_product (f i k) (f j k))

-- column j of f is that of the factor of m with n rows, and all of it is in bounds
pub record IsColumn (n : ℕ) (m f : ℕ → ℕ → ℤ) (j : ℕ) : Type 0 where
  pub pivot : pos 1 ≤ℤ left_of m f j j
  pub root : IsRoot (left_of m f j j) (f j j)
  pub below : (i : ℕ) → j < i → i < n → f i j ≡ fixed_quotient (left_of m f i j) (f j j)
  pub left_fits : (i : ℕ) → j ≤ i → i < n → unsigned_abs (left_of m f i j) ≤ 2 ^ 61
  pub fits : (i : ℕ) → j ≤ i → i < n → unsigned_abs (f i j) ≤ 2 ^ 61

-- so are the columns before column c
abbrev pub HasColumns : ℕ → (ℕ → ℕ → ℤ) → (ℕ → ℕ → ℤ) → ℕ → Type 0
HasColumns n m f c = (j : ℕ) → j < c → IsColumn n m f j

-- column j is the first that no factor of m has
pub record IsPivot (n : ℕ) (m : ℕ → ℕ → ℤ) (j : ℕ) : Type 0 where
  pub within : j < n
  pub before : (f : ℕ → ℕ → ℤ) × HasColumns n m f j
  pub none : (f : ℕ → ℕ → ℤ) → ¬ (HasColumns n m f (suc j))

-- what each factor keeps
pub record IsFactorTable (f : SquareTable) : Type 0 where
  pub small : AllAtMost (2 ^ 61) f.numbers
  pub positive : (i : ℕ) → i < f.size → pos 1 ≤ℤ square_at f i i
