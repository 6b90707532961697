-- A factor in the making, column by column. Private functions alone speak of it.
use Rattle.std.specs.Prelude.{◌≡◌, ◌≤◌, ◌<◌, ◌^◌, ℕ, ℤ, pos, ◌≤ℤ◌, unsigned_abs}
use Rattle.chol_factor.specs.Factor.{fixed_quotient, IsRoot, IsColumn}

-- f and g have equal numbers in the columns before column j, from the diagonal down
abbrev pub AgreeBefore : ℕ → (ℕ → ℕ → ℤ) → (ℕ → ℕ → ℤ) → ℕ → Type 0
AgreeBefore n f g j = (i k : ℕ) → k < j → k ≤ i → i < n → f i k ≡ g i k

-- f has the numbers of m in the columns from column j on, from the diagonal down
abbrev pub IsWaiting : ℕ → (ℕ → ℕ → ℤ) → (ℕ → ℕ → ℤ) → ℕ → Type 0
IsWaiting n m f j = (i k : ℕ) → j ≤ k → k ≤ i → i < n → f i k ≡ m i k

-- r is the number of the diagonal where the columns before leave a of it
pub record IsDiagonal (a r : ℤ) : Type 0 where
  pub pivot : pos 1 ≤ℤ a
  pub root : IsRoot a r
  pub left_fits : unsigned_abs a ≤ 2 ^ 61
  pub fits : unsigned_abs r ≤ 2 ^ 61

-- a and its quotient by r are in bounds
pub record IsBounded (a r : ℤ) : Type 0 where
  pub left_fits : unsigned_abs a ≤ 2 ^ 61
  pub fits : unsigned_abs (fixed_quotient a r) ≤ 2 ^ 61

-- no table that begins with the columns of f before column j has a column j of the factor of m
abbrev pub IsStuck : ℕ → (ℕ → ℕ → ℤ) → (ℕ → ℕ → ℤ) → ℕ → Type 0
IsStuck n m f j = (g : ℕ → ℕ → ℤ) → AgreeBefore n f g j → ¬ (IsColumn n m g j)
