-- The certificate from the lists of all errors and of all defects.
use Rattle.std.specs.Prelude.{◌≡◌, ◌≤◌, ◌<◌, ◌+◌, ◌*◌, ◌^◌, ℕ, ℤ, ⊤, List, length, slice_index, slice_index_or}
use Rattle.whole_numbers.specs.Quotients.{up_over}
use Rattle.whole_numbers.specs.Lists.{NonePast}
use Rattle.sys_model.specs.Systems.{Table, Encloses, rho}
use Rattle.enclosures.specs.Pilots.{PilotTable}
use Rattle.enclosures.specs.Radii.{radius_at}
use Rattle.enclosure_check.specs.Certificates.{IsCertified, AreErrors, AreDefects}
use Rattle.enclosures.specs.declared.Radius.{Radius}
use Rattle.enclosure_check.specs.declared.CheckError.{CheckError}
use Rattle.enclosure_check.specs.declared.CheckError.TheVariants.{Residual, Defect, Memory}
use Rattle.whole_numbers.specs.Least.{greatest_to}

-- the greatest number of the list, and 0 where there is none
abbrev pub greatest_of : List ℕ → ℕ
greatest_of xs = greatest_to (length xs) (slice_index xs)

-- the greatest number stands here first
pub record IsFirstGreatest (xs : List ℕ) (row most : ℕ) : Type 0 where
  pub within : row < length xs
  pub here : slice_index xs row ≡ most
  pub before : (k : ℕ) → k < row → slice_index xs k < most

-- the radius of row i, from the greatest defect b and the greatest error m
abbrev pub radius_from : List ℕ → List ℕ → ℕ → ℕ → ℕ → ℕ
radius_from errors defects b m i = slice_index errors i + up_over (slice_index defects i * rho b m) (2 ^ 30)

-- the greatest defect is below a whole, and v has the numbers of the certificate
pub record HasRadii (errors defects : List ℕ) (v : Radius) : Type 0 where
  pub parts : v.b ≡ greatest_of defects
  pub error : v.m ≡ greatest_of errors
  pub parts_fit : v.b < 2 ^ 30
  pub len : length v.w.items ≡ length errors
  pub radii : (i : ℕ) → i < length errors → slice_index_or v.w.items i 0 ≡ radius_from errors defects v.b v.m i

-- the greatest defect is a whole or more, and this row has it first
pub record IsWhole (defects : List ℕ) (row parts : ℕ) : Type 0 where
  pub greatest : parts ≡ greatest_of defects
  pub first : IsFirstGreatest defects row parts
  pub past : 2 ^ 30 ≤ parts

-- what a refusal of the errors says: the error of this row is the first of more than 2^66
pub record IsLarge (errors : List ℕ) (row error : ℕ) : Type 0 where
  pub within : row < length errors
  pub before : (k : ℕ) → k < row → slice_index errors k ≤ 2 ^ 66
  pub here : slice_index errors row ≡ error
  pub past : 2 ^ 66 < error

abbrev pub IsErrorRefused : List ℕ → CheckError → Type 0
IsErrorRefused errors (Residual row size) = IsLarge errors row size
IsErrorRefused errors (Defect row parts) = ⊥
IsErrorRefused errors Memory = ⊥

-- what a refusal of the defects says
abbrev pub IsDefectRefused : List ℕ → CheckError → Type 0
IsDefectRefused defects (Residual row size) = ⊥
IsDefectRefused defects (Defect row parts) = IsWhole defects row parts
IsDefectRefused defects Memory = ⊤

-- what a refusal of both says: the errors come first
abbrev pub IsRefusedOf : List ℕ → List ℕ → CheckError → Type 0
IsRefusedOf errors defects (Residual row size) = IsLarge errors row size
IsRefusedOf errors defects (Defect row parts) = NonePast (2 ^ 66) errors × IsWhole defects row parts
IsRefusedOf errors defects Memory = ⊤

-- wherever these are the errors and the defects, v is the certificate, and its radii enclose each solution
abbrev pub Certifies : List ℕ → List ℕ → Radius → Type 0
Certifies errors defects v =
    (n : ℕ) (t : Table) (p : PilotTable) (y : ℕ → ℤ) → AreErrors n t p y errors → AreDefects n t p defects → IsCertified n t p y v × Encloses n t y (radius_at v)
