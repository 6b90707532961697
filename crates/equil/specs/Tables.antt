-- Working tables: a table and a right side scaled row by row and column by column.
use Rattle.std.specs.Prelude.{◌≡◌, ◌≤◌, ◌<◌, ◌^◌, ◌⊎◌, ℕ, ℤ, pos, ◌-ℤ◌, neg_ℤ, List, slice_index_or}
use Rattle.stated_order.specs.First.{HoldsLower, IsFirstFailure, IsFirstLowerFailure}
use Rattle.whole_numbers.specs.Scaling.{interval_scale10}
use Rattle.whole_numbers.specs.Intervals.{Interval, size}
use Rattle.sym_blocks.specs.Tables.{SymTable, entry_at, zero_interval}
use Rattle.sys_model.specs.Systems.{Table}
use Rattle.equil.specs.Exponents.{IsExponent}

-- the intervals of a symmetric table and of a right side
abbrev pub table_of : SymTable → List Interval → Table
table_of a d = record { entry = entry_at a; right = λ i. slice_index_or d i zero_interval }

-- the exponents of a list
abbrev pub exponent_of : List ℤ → ℕ → ℤ
exponent_of e i = slice_index_or e i (pos 0)

-- the interval (i, j) times 10^(-e_i - e_j), rounded outward
abbrev pub working_entry : (ℕ → ℕ → Interval) → (ℕ → ℤ) → ℕ → ℕ → Interval
working_entry t e i j = interval_scale10 (t i j) (neg_ℤ (e i) -ℤ e j)

-- interval i of the right side times 10^(12 - e_i), rounded outward
abbrev pub working_right : (ℕ → Interval) → (ℕ → ℤ) → ℕ → Interval
working_right d e i = interval_scale10 (d i) (pos 12 -ℤ e i)

-- each e i is the exponent of the diagonal interval i
abbrev pub AreExponents : ℕ → (ℕ → ℕ → Interval) → (ℕ → ℤ) → Type 0
AreExponents n t e = (i : ℕ) → i < n → IsExponent (t i i).hi (e i)

-- w is the working table of t with n rows
pub record IsWorking (n : ℕ) (t w : Table) (e : ℕ → ℤ) : Type 0 where
  pub exponents : AreExponents n t.entry e
  pub entries : (i j : ℕ) → i < n → j < n → w.entry i j ≡ working_entry t.entry e i j
  pub rights : (i : ℕ) → i < n → w.right i ≡ working_right t.right e i

-- the working intervals are in their bounds
abbrev pub EntryFits : (ℕ → ℕ → Interval) → (ℕ → ℤ) → ℕ → ℕ → Type 0
EntryFits t e i j = size (working_entry t e i j) ≤ 2 ^ 61

abbrev pub RightFits : (ℕ → Interval) → (ℕ → ℤ) → ℕ → Type 0
RightFits d e i = size (working_right d e i) ≤ 10 ^ 37

-- each interval of the table is in its bound
abbrev pub EntriesFit : ℕ → (ℕ → ℕ → Interval) → (ℕ → ℤ) → Type 0
EntriesFit n t e = HoldsLower n (EntryFits t e)

-- the first interval past its bound is at (row, col): the table comes first, and then the right side, with row and col equal
pub record IsFirstPast (n : ℕ) (t : Table) (row col : ℕ) : Type 0 where
  pub e : ℕ → ℤ
  pub exponents : AreExponents n t.entry e
  pub first : IsFirstLowerFailure n (EntryFits t.entry e) row col ⊎ ((row ≡ col) × EntriesFit n t.entry e × IsFirstFailure n (RightFits t.right e) row)
