-- Where a table has no factor.
use Rattle.std.specs.Prelude.{ℕ, ℤ}
use Rattle.chol_factor.specs.Factor.{IsPivot}
use Rattle.chol_factor.specs.declared.FactorError.{FactorError}
use Rattle.chol_factor.specs.declared.FactorError.TheVariants.{Pivot}

-- what a refusal says of the table m with n rows
abbrev pub IsFactorRefused : ℕ → (ℕ → ℕ → ℤ) → FactorError → Type 0
IsFactorRefused n m (Pivot row) = IsPivot n m row
