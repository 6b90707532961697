-- The least number with a property, and the first place at which one fails.
use Rattle.std.specs.Prelude.{◌≤◌, ◌<◌, ℕ}

-- h is the least number with the property
pub record IsLeast (P : ℕ → Type 0) (h : ℕ) : Type 0 where
  pub here : P h
  pub before : (k : ℕ) → k < h → ¬ (P k)

-- the property holds of each number below n
abbrev pub HoldsBelow : ℕ → (ℕ → Type 0) → Type 0
HoldsBelow n P = (i : ℕ) → i < n → P i

-- row is the first number below n at which the property fails
pub record IsFirstFailure (n : ℕ) (P : ℕ → Type 0) (row : ℕ) : Type 0 where
  pub within : row < n
  pub before : HoldsBelow row P
  pub fails : ¬ (P row)

-- the property holds at each place of the lower triangle of n rows
abbrev pub HoldsLower : ℕ → (ℕ → ℕ → Type 0) → Type 0
HoldsLower n P = (i j : ℕ) → i < n → j ≤ i → P i j

-- (row, col) is the first place of that triangle at which it fails, row by row up to the diagonal
pub record IsFirstLowerFailure (n : ℕ) (P : ℕ → ℕ → Type 0) (row col : ℕ) : Type 0 where
  pub within : row < n
  pub lower : col ≤ row
  pub rows : HoldsLower row P
  pub left : HoldsBelow col (P row)
  pub fails : ¬ (P row col)
