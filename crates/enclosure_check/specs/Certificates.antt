-- The certificate of a pilot, the approximate inverse R, at a vector, and where it does not pass: the residual test, with
-- scales and bounds of this program's own. Source of the test: Rump, Verification methods, 2010.
use Rattle.std.specs.Prelude.{◌≡◌, ◌≤◌, ◌<◌, ◌^◌, ℕ, ℤ, List, length, slice_index_or}
use Rattle.sys_model.specs.Systems.{Table, residual_interval, row_parts, row_error, radius}
use Rattle.whole_numbers.specs.Intervals.{size, interval_shift}
use Rattle.enclosures.specs.Pilots.{PilotTable, pilot_entry}
use Rattle.enclosures.specs.declared.Radius.{Radius}
use Rattle.stated_order.specs.First.{IsLeast}
use Rattle.whole_numbers.specs.Least.{greatest_to}

-- each interval of the residual of y is at most 2^66 in size after an outward shift by h
abbrev pub ResidualFitsAfter : ℕ → Table → (ℕ → ℤ) → ℕ → Type 0
ResidualFitsAfter n t y h = (i : ℕ) → i < n → size (interval_shift h (residual_interval n t y i)) ≤ 2 ^ 66

-- the defect of row i, in parts of 2^30: what the pilot times the table leaves of the identity
abbrev pub parts_of : ℕ → Table → PilotTable → ℕ → ℕ
parts_of n t p i = row_parts n p.g (pilot_entry p) t i

-- the error of row i: what the pilot makes of the residual of y, shifted by h
abbrev pub error_of : ℕ → Table → PilotTable → (ℕ → ℤ) → ℕ → ℕ → ℕ
error_of n t p y h i = row_error n p.g h (pilot_entry p) t y i

-- the certificate passes at y, and v has its numbers
pub record IsCertified (n : ℕ) (t : Table) (p : PilotTable) (y : ℕ → ℤ) (v : Radius) : Type 0 where
  pub h : ℕ
  pub shift : IsLeast (ResidualFitsAfter n t y) h
  pub parts : v.b ≡ greatest_to n (parts_of n t p)
  pub error : v.m ≡ greatest_to n (error_of n t p y h)
  pub error_fits : v.m ≤ 2 ^ 66
  pub parts_fit : v.b < 2 ^ 30
  pub len : length v.w.items ≡ n
  pub radii : (i : ℕ) → i < n → slice_index_or v.w.items i 0 ≡ radius n p.g h (pilot_entry p) t y v.b v.m i

-- the error of this row, the first of more than 2^66, is this
pub record IsResidual (n : ℕ) (t : Table) (p : PilotTable) (y : ℕ → ℤ) (row error : ℕ) : Type 0 where
  pub h : ℕ
  pub shift : IsLeast (ResidualFitsAfter n t y) h
  pub within : row < n
  pub before : (i : ℕ) → i < row → error_of n t p y h i ≤ 2 ^ 66
  pub here : error ≡ error_of n t p y h row
  pub past : 2 ^ 66 < error

-- no error passes 2^66, and this row is the first with the greatest defect, which is a whole or more
pub record IsDefect (n : ℕ) (t : Table) (p : PilotTable) (y : ℕ → ℤ) (row parts : ℕ) : Type 0 where
  pub h : ℕ
  pub shift : IsLeast (ResidualFitsAfter n t y) h
  pub errors : (i : ℕ) → i < n → error_of n t p y h i ≤ 2 ^ 66
  pub within : row < n
  pub here : parts ≡ parts_of n t p row
  pub greatest : parts ≡ greatest_to n (parts_of n t p)
  pub before : (i : ℕ) → i < row → parts_of n t p i < parts
  pub past : 2 ^ 30 ≤ parts

-- these are the errors of all rows
pub record AreErrors (n : ℕ) (t : Table) (p : PilotTable) (y : ℕ → ℤ) (errors : List ℕ) : Type 0 where
  pub h : ℕ
  pub few : h ≤ 60
  pub shift : IsLeast (ResidualFitsAfter n t y) h
  pub len : length errors ≡ n
  pub each : (i : ℕ) → i < n → slice_index_or errors i 0 ≡ error_of n t p y h i

-- these are the defects of all rows
pub record AreDefects (n : ℕ) (t : Table) (p : PilotTable) (defects : List ℕ) : Type 0 where
  pub len : length defects ≡ n
  pub each : (i : ℕ) → i < n → slice_index_or defects i 0 ≡ parts_of n t p i
