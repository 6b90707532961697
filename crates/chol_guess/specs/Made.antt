-- What is made of one factor.
use Rattle.std.specs.Prelude.{◌≡◌, ℕ, ℤ, ⊤}
use Rattle.enclosures.specs.Pilots.{PilotTable, IsPilotScale}
use Rattle.chol_guess.specs.Rows.{PlacesColumns, FailAbove, IsFailure}
use Rattle.chol_guess.specs.declared.PilotError.{PilotError}
use Rattle.chol_guess.specs.declared.PilotError.TheVariants.{Pivot, Condition, Memory}

-- p has the columns of the factor f with n rows at the greatest scale at which all of them stay in bounds
pub record IsPilotOf (n : ℕ) (f : ℕ → ℕ → ℤ) (p : PilotTable) : Type 0 where
  pub size : p.size ≡ n
  pub scale : IsPilotScale p.g
  pub columns : PlacesColumns n f p.g (record { size = p.size; numbers = p.entries }) n
  pub greatest : FailAbove n f p.g

-- what a refusal says of the factor: a factor has each pivot, and nothing is said where memory is wanting
abbrev pub IsRefusedOf : ℕ → (ℕ → ℕ → ℤ) → PilotError → Type 0
IsRefusedOf n f (Pivot row) = ⊥
IsRefusedOf n f (Condition col) = IsFailure n f col
IsRefusedOf n f Memory = ⊤
