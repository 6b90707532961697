-- Where a table has no pilot.
use Rattle.std.specs.Prelude.{ℕ, ℤ, ⊤}
use Rattle.chol_factor.specs.Factor.{IsPivot}
use Rattle.chol_guess.specs.Pilots.{IsCondition}
use Rattle.chol_factor.specs.declared.FactorError.{FactorError}
use Rattle.chol_factor.specs.declared.FactorError.TheVariants as factor
use Rattle.chol_guess.specs.declared.PilotError.{PilotError}
use Rattle.chol_guess.specs.declared.PilotError.TheVariants.{Pivot, Condition, Memory}

-- what a refusal says of the table m with n rows: nothing where memory is wanting
abbrev pub IsRefused : ℕ → (ℕ → ℕ → ℤ) → PilotError → Type 0
IsRefused n m (Pivot row) = IsPivot n m row
IsRefused n m (Condition col) = IsCondition n m col
IsRefused n m Memory = ⊤

-- how the refusal of a factor goes over
abbrev pub of_factor : FactorError → PilotError
of_factor (factor.Pivot row) = Pivot row
