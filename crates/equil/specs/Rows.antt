-- Tables that are scaled row by row.
use Rattle.std.specs.Prelude.{◌≡◌, ◌≤◌, ◌<◌, ℕ, ℤ, List, length, slice_index_or}
use Rattle.whole_numbers.specs.Intervals.{Interval}
use Rattle.sym_blocks.specs.Tables.{SymTable, entry_at, zero_interval}
use Rattle.equil.specs.Exponents.{IsInRange}
use Rattle.equil.specs.Tables.{exponent_of, working_entry, working_right, EntryFits, RightFits}

-- each exponent of the list is in range
abbrev pub AllInRange : List ℤ → Type 0
AllInRange e = (k : ℕ) → k < length e → IsInRange (exponent_of e k)

-- the lower intervals of the rows below n are the working intervals of t
pub record AreScaled (n : ℕ) (a : SymTable) (t : ℕ → ℕ → Interval) (e : ℕ → ℤ) : Type 0 where
  pub entries : (k l : ℕ) → k < n → l ≤ k → entry_at a k l ≡ working_entry t e k l
  pub fit : (k l : ℕ) → k < n → l ≤ k → EntryFits t e k l

-- so are the first intervals of row i
pub record IsRowScaled (i m : ℕ) (a : SymTable) (t : ℕ → ℕ → Interval) (e : ℕ → ℤ) : Type 0 where
  pub entries : (l : ℕ) → l < m → entry_at a i l ≡ working_entry t e i l
  pub fit : (l : ℕ) → l < m → EntryFits t e i l

-- the intervals of the earlier rows are as before
abbrev pub KeepsRows : ℕ → SymTable → SymTable → Type 0
KeepsRows i a b = (k l : ℕ) → k < i → l ≤ k → entry_at b k l ≡ entry_at a k l

-- the first n intervals of the list are the working intervals of the right side
pub record IsRightScaled (n : ℕ) (ds : List Interval) (d : ℕ → Interval) (e : ℕ → ℤ) : Type 0 where
  pub entries : (k : ℕ) → k < n → slice_index_or ds k zero_interval ≡ working_right d e k
  pub fit : (k : ℕ) → k < n → RightFits d e k
