-- The refusals of a start vector and of a certificate.
use Rattle.std.specs.Prelude.{ℕ, ℤ, ⊤}
use Rattle.sys_model.specs.Systems.{Table}
use Rattle.enclosures.specs.Pilots.{PilotTable}
use Rattle.enclosure_check.specs.Vectors.{IsVectorRange}
use Rattle.enclosure_check.specs.Certificates.{IsResidual, IsDefect}
use Rattle.enclosure_check.specs.declared.VectorError.{VectorError}
use Rattle.enclosure_check.specs.declared.VectorError.TheVariants as vector
use Rattle.enclosure_check.specs.declared.CheckError.{CheckError}
use Rattle.enclosure_check.specs.declared.CheckError.TheVariants as check

-- of the start vector
abbrev pub IsVectorRefused : ℕ → Table → PilotTable → VectorError → Type 0
IsVectorRefused n t p (vector.Range row) = IsVectorRange n t p row
IsVectorRefused n t p vector.Memory = ⊤

-- of the certificate
abbrev pub IsCheckRefused : ℕ → Table → PilotTable → (ℕ → ℤ) → CheckError → Type 0
IsCheckRefused n t p y (check.Residual row size) = IsResidual n t p y row size
IsCheckRefused n t p y (check.Defect row parts) = IsDefect n t p y row parts
IsCheckRefused n t p y check.Memory = ⊤
