-- What is never refused.
use Rattle.std.specs.Prelude.{ℕ, ℤ}
use Rattle.sys_model.specs.Systems.{Table}
use Rattle.chol_factor.specs.Factor.{IsPivot}
use Rattle.enclosures.specs.Pilots.{PilotTable}
use Rattle.chol_guess.specs.Pilots.{IsPilot, IsCondition}
use Rattle.enclosure_check.specs.Vectors.{IsStartVector, IsVectorRange}
use Rattle.enclosure_check.specs.Certificates.{IsResidual, IsDefect}

-- no step from the midpoints m of n rows of t to a certificate is refused
pub record IsNeverRefused (n : ℕ) (t : Table) (m : ℕ → ℕ → ℤ) : Type 0 where
  -- no column of a factor of m is wanting
  pub pivot : (row : ℕ) → ¬ (IsPivot n m row)
  -- the columns of its approximate inverse stay in their bounds at some scale
  pub condition : (col : ℕ) → ¬ (IsCondition n m col)
  -- no refinement with a pilot of m passes the bound of the start vector
  pub range : (p : PilotTable) (row : ℕ) → IsPilot n m p → ¬ (IsVectorRange n t p row)
  -- no error at a start vector passes its bound
  pub residual : (p : PilotTable) (y : ℕ → ℤ) (row error : ℕ) → IsPilot n m p → IsStartVector n t p y → ¬ (IsResidual n t p y row error)
  -- no defect of a pilot of m comes to a whole
  pub defect : (p : PilotTable) (y : ℕ → ℤ) (row parts : ℕ) → IsPilot n m p → ¬ (IsDefect n t p y row parts)
