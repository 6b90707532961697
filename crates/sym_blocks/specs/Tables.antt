-- Symmetric tables and lower triangles, by the lists of their lower intervals, row by row.
use Rattle.std.specs.Prelude.{◌≡◌, ◌+◌, ◌⊎◌, ℕ, zero, suc, ℤ, pos, ◌+ℤ◌, List, max, min, slice_index_or, FitsSigned}
use Rattle.std.specs.Int.{w128}
use Rattle.whole_numbers.specs.Intervals.{Interval, point_interval}

-- the interval of the number 0
abbrev pub zero_interval : Interval
zero_interval = point_interval (pos 0)

-- how many intervals stand in the rows before row n, each up to its diagonal
unfoldable pub before : ℕ → ℕ
before zero = 0
before (suc n) = before n + suc n

-- where the interval (i, j) stands, for j at most i
abbrev pub lower_place : ℕ → ℕ → ℕ
lower_place i j = before i + j

-- where the interval of a pair stands, in either order
abbrev pub place : ℕ → ℕ → ℕ
place i j = lower_place (max i j) (min i j)

-- a symmetric table: its size and its lower intervals
pub record SymTable : Type 0 where
  pub size : ℕ
  pub entries : List Interval

-- the interval of the pair (i, j)
abbrev pub entry_at : SymTable → ℕ → ℕ → Interval
entry_at table i j = slice_index_or table.entries (place i j) zero_interval

-- a lower triangle: its size and its numbers
pub record TriTable : Type 0 where
  pub size : ℕ
  pub numbers : List ℤ

-- the number at (i, j), for j at most i
abbrev pub number : TriTable → ℕ → ℕ → ℤ
number table i j = slice_index_or table.numbers (lower_place i j) (pos 0)

-- (k, l) is the pair i, j in one of its two orders
abbrev pub IsPair : ℕ → ℕ → ℕ → ℕ → Type 0
IsPair i j k l = ((k ≡ i) × (l ≡ j)) ⊎ ((k ≡ j) × (l ≡ i))

-- the ends of the sum fit 128 bits
pub record SumFits (a b : Interval) : Type 0 where
  pub low : FitsSigned w128 (a.lo +ℤ b.lo)
  pub high : FitsSigned w128 (a.hi +ℤ b.hi)
