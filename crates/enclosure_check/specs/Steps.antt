-- The steps from a table of intervals to a certificate, each with what it gives or the first cause for which it refuses: the working table,
-- its pilot, the start vector of a right side, and the certificate at that vector.
use Rattle.std.specs.Prelude.{◌≡◌, ◌<◌, ◌*◌, ℕ, ℤ, List, length, slice_index_or, Result, Ok, Err}
use Rattle.whole_numbers.specs.Intervals.{Interval, midpoint}
use Rattle.whole_numbers.specs.Lists.{at}
use Rattle.sym_blocks.specs.Tables.{SymTable, before}
use Rattle.sys_model.specs.Systems.{Table}
use Rattle.equil.specs.Tables.{table_of, exponent_of, IsWorking, EntriesFit, RightFits, IsFirstPast}
use Rattle.equil.specs.declared.EquilError.{EquilError}
use Rattle.equil.specs.declared.EquilError.TheVariants as equil
use Rattle.chol_factor.specs.Factor.{IsPivot}
use Rattle.enclosures.specs.Pilots.{PilotTable}
use Rattle.enclosures.specs.declared.Radius.{Radius}
use Rattle.chol_guess.specs.Pilots.{IsPilot, IsCondition}
use Rattle.chol_guess.specs.declared.PilotError.{PilotError}
use Rattle.chol_guess.specs.declared.PilotError.TheVariants as pilot
use Rattle.enclosure_check.specs.Vectors.{IsStartVector, IsVectorRange}
use Rattle.enclosure_check.specs.Certificates.{IsCertified, IsResidual, IsDefect}
use Rattle.enclosure_check.specs.declared.VectorError.{VectorError}
use Rattle.enclosure_check.specs.declared.VectorError.TheVariants as vector
use Rattle.enclosure_check.specs.declared.CheckError.{CheckError}
use Rattle.enclosure_check.specs.declared.CheckError.TheVariants as check

-- ---- the working table
-- a symmetric table, its right side and the exponents of its rows
pub record Worked : Type 0 where
  pub table : SymTable
  pub right : List Interval
  pub exponents : List ℤ

-- its intervals, and the middles of these
abbrev pub intervals_of : Worked → Table
intervals_of w = table_of w.table w.right

abbrev pub midpoints_of : Worked → ℕ → ℕ → ℤ
midpoints_of w i j = midpoint ((intervals_of w).entry i j)

-- w is the working table of n rows of t, and all of it is in its bounds
pub record IsWorkedOf (n : ℕ) (t : Table) (w : Worked) : Type 0 where
  pub size : w.table.size ≡ n
  pub entries : length w.table.entries ≡ before n
  pub rights : length w.right ≡ n
  pub exponents : length w.exponents ≡ n
  pub working : IsWorking n t (intervals_of w) (exponent_of w.exponents)
  pub entries_fit : EntriesFit n t.entry (exponent_of w.exponents)
  pub rights_fit : (i : ℕ) → i < n → RightFits t.right (exponent_of w.exponents) i

-- the working table, or its first interval past its bound
abbrev pub IsWorkingStep : ℕ → Table → Result Worked EquilError → Type 0
IsWorkingStep n t (Ok w) = IsWorkedOf n t w
IsWorkingStep n t (Err (equil.Range row col)) = IsFirstPast n t row col
IsWorkingStep n t (Err equil.Memory) = ⊥

-- ---- the pilot, an approximate inverse of the middles
-- p is the pilot of m with n rows, with as many numbers as its rows and columns have
pub record IsPilotOf (n : ℕ) (m : ℕ → ℕ → ℤ) (p : PilotTable) : Type 0 where
  pub pilot : IsPilot n m p
  pub square : length p.entries ≡ n * n

-- the pilot, or the first column of which the middles have no factor, or the first that passes its bounds at each scale
abbrev pub IsPilotStep : ℕ → (ℕ → ℕ → ℤ) → Result PilotTable PilotError → Type 0
IsPilotStep n m (Ok p) = IsPilotOf n m p
IsPilotStep n m (Err (pilot.Pivot row)) = IsPivot n m row
IsPilotStep n m (Err (pilot.Condition col)) = IsCondition n m col
IsPilotStep n m (Err pilot.Memory) = ⊥

-- ---- the start vector
pub record IsVectorOf (n : ℕ) (t : Table) (p : PilotTable) (y : List ℤ) : Type 0 where
  pub len : length y ≡ n
  pub vector : IsStartVector n t p (at y)

-- the start vector, or the first row in which the sizes pass their bound after a refinement
abbrev pub IsVectorStep : ℕ → Table → PilotTable → Result (List ℤ) VectorError → Type 0
IsVectorStep n t p (Ok y) = IsVectorOf n t p y
IsVectorStep n t p (Err (vector.Range row)) = IsVectorRange n t p row
IsVectorStep n t p (Err vector.Memory) = ⊥

-- ---- the certificate
-- the greatest defect, the greatest error, and the radii
pub record Certificate : Type 0 where
  pub parts : ℕ
  pub error : ℕ
  pub radii : List ℕ

abbrev pub certificate_of : Radius → Certificate
certificate_of v = record { parts = v.b; error = v.m; radii = v.w.items }

-- the radius of row i
abbrev pub radius_in : Certificate → ℕ → ℕ
radius_in c i = slice_index_or c.radii i 0

-- the certificate passes with these numbers
pub record IsCertificateOf (n : ℕ) (t : Table) (p : PilotTable) (y : List ℤ) (c : Certificate) : Type 0 where
  pub radius : Radius
  pub certified : IsCertified n t p (at y) radius
  pub is : c ≡ certificate_of radius

-- its numbers where it passes, or the first error past its bound, or else the first of the greatest defects, a whole or more
abbrev pub IsCertificateStep : ℕ → Table → PilotTable → List ℤ → Result Certificate CheckError → Type 0
IsCertificateStep n t p y (Ok c) = IsCertificateOf n t p y c
IsCertificateStep n t p y (Err (check.Residual row size)) = IsResidual n t p (at y) row size
IsCertificateStep n t p y (Err (check.Defect row parts)) = IsDefect n t p (at y) row parts
IsCertificateStep n t p y (Err check.Memory) = ⊥
