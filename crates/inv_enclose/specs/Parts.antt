-- For private functions alone: a column of an inverse, and the columns so far in a table in memory.
use Rattle.std.specs.Prelude.{◌≡◌, ◌≤◌, ◌<◌, ◌⊎◌, ◌^◌, ℕ, ℤ, pos, ◌+ℤ◌, ◌-ℤ◌, List, length, Ok, Err}
use Rattle.whole_numbers.specs.Intervals.{Interval, size}
use Rattle.whole_numbers.specs.Lists.{at, NonePast}
use Rattle.whole_numbers.specs.Scaling.{interval_scale10}
use Rattle.sym_blocks.specs.Tables.{SymTable, entry_at}
use Rattle.sys_model.specs.Systems.{Encloses, around}
use Rattle.equil.specs.Tables.{table_of}
use Rattle.enclosures.specs.Pilots.{PilotTable}
use Rattle.enclosures.specs.Vectors.{IsSmall}
use Rattle.enclosure_check.specs.Enclosures.{IsTransposed}
use Rattle.enclosure_check.specs.Steps.{certificate_of, radius_in}
use Rattle.inv_enclose.specs.Columns.{IsUnitPower, IsUnitSide, Column, IsColumnOf, AreColumns, AreColumnsByEither, column_at}
use Rattle.inv_enclose.specs.declared.InvError.{InvError}
use Rattle.inv_enclose.specs.declared.columns.EnclosedColumn.{EnclosedColumn}

-- ---- intervals in memory
-- an interval is at most 10^34 in size
abbrev pub IsModest : Interval → Type 0
IsModest w = size w ≤ 10 ^ 34

-- an interval in memory is another where one of the two is modest
pub record IsKept (given shown : Interval) : Type 0 where
  pub here : IsModest given → shown ≡ given
  pub back : IsModest shown → shown ≡ given

-- ---- a column
-- the column in memory
abbrev pub column_of : EnclosedColumn → Column
column_of e = record { vector = e.vector.items; certificate = certificate_of e.radius }

-- its numbers and radii are one for each row, and within their bounds
pub record IsInBounds (n : ℕ) (column : Column) : Type 0 where
  pub numbers : length column.vector ≡ n
  pub small : IsSmall n (at column.vector)
  pub radii : length column.certificate.radii ≡ n
  pub most : NonePast (2 ^ 97) column.certificate.radii

-- column c of the inverse of a working table, which encloses each solution
pub record IsEnclosedColumn (n : ℕ) (a : SymTable) (p : PilotTable) (v c : ℕ) (column : Column) : Type 0 where
  pub right : List Interval
  pub is_unit : IsUnitSide n v c right
  pub is_column : IsColumnOf n a p c right (Ok column)
  pub encloses : Encloses n (table_of a right) (at column.vector) (radius_in column.certificate)

-- the interval of row i of column j times 10^(shift - e_i - e_j)
abbrev pub scaled_interval : ℤ → (ℕ → ℤ) → Column → ℕ → ℕ → Interval
scaled_interval shift e column i j = interval_scale10 (around (at column.vector i) (radius_in column.certificate i)) (shift -ℤ e i -ℤ e j)

-- ---- the columns so far
-- the first m columns stand in the table from their diagonals on
pub record AreShown (n : ℕ) (a : SymTable) (p : PilotTable) (v : ℕ) (shift : ℤ) (e : ℕ → ℤ) (m : ℕ) (out : SymTable) : Type 0 where
  pub columns : List Column
  pub count : length columns ≡ m
  pub each : (j : ℕ) → j < m → IsEnclosedColumn n a p v j (column_at columns j)
  pub shown : (i j : ℕ) → i < n → j ≤ i → j < m → IsKept (scaled_interval shift e (column_at columns j) i j) (entry_at out i j)

-- ---- all columns
-- the table by which all columns are: p or, where a column by p is refused, p transposed
abbrev pub IsTaken : ℕ → SymTable → PilotTable → ℕ → PilotTable → Type 0
IsTaken n a p v q = (q ≡ p) ⊎ ((cause : InvError) × AreColumns n a p v (Err cause) × IsTransposed p q)

-- all columns stand in the table, by p or by p transposed
pub record AreShownByEither (n : ℕ) (a : SymTable) (p : PilotTable) (v : ℕ) (shift : ℤ) (e : ℕ → ℤ) (out : SymTable) : Type 0 where
  pub taken : PilotTable
  pub is_taken : IsTaken n a p v taken
  pub shown : AreShown n a taken v shift e n out

-- so they do, in units of 10^-(18 + kappa)
pub record IsShownInverse (n : ℕ) (kappa : ℤ) (a : SymTable) (e : ℕ → ℤ) (p : PilotTable) (out : SymTable) : Type 0 where
  pub v : ℕ
  pub power : IsUnitPower p.g v
  pub are : AreShownByEither n a p v (kappa +ℤ pos 18 -ℤ pos v) e out

-- a column by p is refused, and so is one by p transposed
pub record IsColumnRefused (n : ℕ) (a : SymTable) (p : PilotTable) (cause : InvError) : Type 0 where
  pub v : ℕ
  pub power : IsUnitPower p.g v
  pub both : AreColumnsByEither n a p v (Err cause)
