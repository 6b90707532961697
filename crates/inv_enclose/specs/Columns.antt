-- The inverse of a table of intervals, column by column. Each column solves the system whose right side has one number, and is enclosed
-- by the residual test, with one table for all columns: the pilot or, where a column of the pilot is refused, the pilot transposed.
-- (Rump, Verification methods, 2010.) The scales, the bounds and the second try are this program's own.
use Rattle.std.specs.Prelude.{◌≡◌, ◌≤◌, ◌<◌, ◌+◌, ◌^◌, ℕ, suc, ℤ, pos, ◌+ℤ◌, ◌-ℤ◌, List, [], length, replicate, Some, slice_get, slice_index_or, Result, Ok, Err}
use Rattle.stated_order.specs.First.{HoldsLower, IsFirstLowerFailure}
use Rattle.stated_order.specs.Steps.{IsOne, Then, Renamed}
use Rattle.whole_numbers.specs.Intervals.{Interval, point_interval, size}
use Rattle.whole_numbers.specs.Lists.{at}
use Rattle.whole_numbers.specs.Scaling.{interval_scale10}
use Rattle.whole_numbers.specs.Sum.{unit}
use Rattle.sym_blocks.specs.Tables.{SymTable, entry_at, before, zero_interval}
use Rattle.sys_model.specs.Systems.{around}
use Rattle.equil.specs.Tables.{table_of, exponent_of}
use Rattle.enclosures.specs.Pilots.{PilotTable}
use Rattle.enclosure_check.specs.Enclosures.{FirstGiven, IsTransposed}
use Rattle.enclosure_check.specs.Steps.{Worked, midpoints_of, IsWorkingStep, IsPilotStep, IsVectorStep, Certificate, radius_in, IsCertificateStep}
use Rattle.inv_enclose.specs.Refusals.{of_working, of_pilot, of_vector, of_check}
use Rattle.inv_enclose.specs.declared.InvError.{InvError}
use Rattle.inv_enclose.specs.declared.InvError.TheVariants.{Range}

-- ---- right sides
-- v is the greatest number with 10^v at most 2^(63 + g)
pub record IsUnitPower (g v : ℕ) : Type 0 where
  pub within : 10 ^ v ≤ 2 ^ (63 + g)
  pub most : 2 ^ (63 + g) < 10 ^ suc v

-- the right side with 10^v in row c, and zeros in the others of n rows
pub record IsUnitSide (n v c : ℕ) (d : List Interval) : Type 0 where
  pub len : length d ≡ n
  pub each : (i : ℕ) → i < n → slice_index_or d i zero_interval ≡ point_interval (unit c (pos (10 ^ v)) i)

-- ---- columns
-- a column: its start vector and its certificate
pub record Column : Type 0 where
  pub vector : List ℤ
  pub certificate : Certificate

-- column c of the inverse of a working table, or the first cause for which its start vector or its certificate is refused
abbrev pub IsColumnOf : ℕ → SymTable → PilotTable → ℕ → List Interval → Result Column InvError → Type 0
IsColumnOf n a p c d =
    Then (Renamed (of_vector c) (IsVectorStep n (table_of a d) p)) (λ y.
    Then (Renamed of_check (IsCertificateStep n (table_of a d) p y)) (λ certificate result.
    result ≡ Ok (record { vector = y; certificate = certificate })))

abbrev pub IsColumn : ℕ → SymTable → PilotTable → ℕ → ℕ → Result Column InvError → Type 0
IsColumn n a p v c result = (d : List Interval) × IsUnitSide n v c d × IsColumnOf n a p c d result

-- columns one after another: those of all numbers below n, or the refusal of the first that is refused
abbrev pub AtEach : {B C : Type 0} → (ℕ → Result B C → Type 0) → ℕ → Result (List B) C → Type 0
AtEach {B = B} step n (Ok given) = (length given ≡ n) × ((k : ℕ) (b : B) → slice_get given k ≡ Some b → step k (Ok b))
AtEach {B = B} step n (Err cause) = (k : ℕ) × (k < n) × ((j : ℕ) → j < k → (b : B) × step j (Ok b)) × step k (Err cause)

-- all columns of the inverse of a working table by p in turn, or the refusal of the first that is refused
abbrev pub AreColumns : ℕ → SymTable → PilotTable → ℕ → Result (List Column) InvError → Type 0
AreColumns n a p v = AtEach (IsColumn n a p v) n

-- all columns by p transposed
abbrev pub AreColumnsByTransposed : ℕ → SymTable → PilotTable → ℕ → Result (List Column) InvError → Type 0
AreColumnsByTransposed n a p v result = (q : PilotTable) × IsTransposed p q × AreColumns n a q v result

-- all columns by p, or p is refused and all are by p transposed; where both are refused, the refusal is that of p
abbrev pub AreColumnsByEither : ℕ → SymTable → PilotTable → ℕ → Result (List Column) InvError → Type 0
AreColumnsByEither n a p v = FirstGiven (AreColumns n a p v) (AreColumnsByTransposed n a p v)

-- ---- the inverse
-- a column past the last has no numbers
abbrev pub column_at : List Column → ℕ → Column
column_at columns j = slice_index_or columns j (record { vector = []; certificate = record { parts = 0; error = 0; radii = [] } })

-- the interval of row i of column j, in units of the working table
abbrev pub enclosed_at : List Column → ℕ → ℕ → Interval
enclosed_at columns i j = around (at (column_at columns j).vector i) (radius_in (column_at columns j).certificate i)

-- the same times 10^(kappa + 18 - v - e_i - e_j), rounded outward, where e are the exponents of the working table
abbrev pub inverse_interval : ℤ → ℕ → (ℕ → ℤ) → List Column → ℕ → ℕ → Interval
inverse_interval kappa v e columns i j = interval_scale10 (enclosed_at columns i j) (kappa +ℤ pos 18 -ℤ pos v -ℤ e i -ℤ e j)

abbrev pub IntervalFits : ℤ → ℕ → (ℕ → ℤ) → List Column → ℕ → ℕ → Type 0
IntervalFits kappa v e columns i j = size (inverse_interval kappa v e columns i j) ≤ 10 ^ 34

-- the table of these intervals up to the diagonal
pub record IsTableOfColumns (n : ℕ) (kappa : ℤ) (v : ℕ) (e : ℕ → ℤ) (columns : List Column) (out : SymTable) : Type 0 where
  pub size : out.size ≡ n
  pub lower : length out.entries ≡ before n
  pub entries : (i j : ℕ) → i < n → j ≤ i → entry_at out i j ≡ inverse_interval kappa v e columns i j

-- the table where all of them fit, or else the place of the first that does not
abbrev pub AreJoined : ℕ → ℤ → ℕ → (ℕ → ℤ) → List Column → Result SymTable InvError → Type 0
AreJoined n kappa v e columns (Ok out) = IsTableOfColumns n kappa v e columns out × HoldsLower n (IntervalFits kappa v e columns)
AreJoined n kappa v e columns (Err (Range row col)) = IsFirstLowerFailure n (IntervalFits kappa v e columns) row col
AreJoined n kappa v e columns (Err other) = ⊥

-- what follows a pilot: all columns by it or by its transpose, which has the same power, and then the table of their intervals
abbrev pub IsInverseBy : ℕ → ℤ → Worked → PilotTable → Result SymTable InvError → Type 0
IsInverseBy n kappa w p result =
    (v : ℕ) × IsUnitPower p.g v × Then (AreColumnsByEither n w.table p v) (AreJoined n kappa v (exponent_of w.exponents)) result

-- The inverse of a table of intervals at kappa, or the first cause for which there is none: first the working table, then its pilot, then
-- column after column its start vector and its certificate, by the pilot or, where that is refused, anew by the pilot transposed, then the
-- intervals row by row up to the diagonal.
abbrev pub IsInverted : SymTable → ℤ → Result SymTable InvError → Type 0
IsInverted table kappa =
    Then (Renamed of_working (IsWorkingStep table.size (table_of table (replicate table.size zero_interval)))) (λ w.
    Then (Renamed of_pilot (IsPilotStep table.size (midpoints_of w))) (λ p.
    IsInverseBy table.size kappa w p))

-- there is one inverse, or one first cause, and never both
abbrev pub OneInverse : Type 0
OneInverse = (table : SymTable) (kappa : ℤ) → IsOne (IsInverted table kappa)
