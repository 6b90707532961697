-- For private functions alone: intervals by the lists of their low and of their high ends, row by row, and the numbers that rows are multiplied
-- with.
use Rattle.std.specs.Prelude.{◌≡◌, ◌≤◌, ◌<◌, ◌+◌, ◌*◌, ◌^◌, ◌⊎◌, ℕ, ℤ, pos, List, length}
use Rattle.whole_numbers.specs.Intervals.{Interval}
use Rattle.whole_numbers.specs.Lists.{at, AllAtMost}
use Rattle.enclosures.specs.Vectors.{IsSmall}
use Rattle.sym_blocks.specs.Tables.{SymTable, entry_at}

-- the interval from number k of low to number k of high
abbrev pub entry_between : List ℤ → List ℤ → ℕ → Interval
entry_between low high k = record { lo = at low k; hi = at high k }

-- low and high have the ends of the intervals of a, row by row
abbrev pub HasEntries : ℕ → SymTable → List ℤ → List ℤ → Type 0
HasEntries n a low high = (j k : ℕ) → j < n → k < n → entry_between low high (j * n + k) ≡ entry_at a j k

-- the ends of a row of a working table, and as many numbers, whose sizes add up to at most 2^64
pub record IsRowByVector (low high y : List ℤ) : Type 0 where
  pub lows : length low ≡ length y
  pub highs : length high ≡ length y
  pub low_ends : AllAtMost (2 ^ 61) low
  pub high_ends : AllAtMost (2 ^ 61) high
  pub small : IsSmall (length y) (at y)

-- the numbers before first are zero, and so are those from end on
abbrev pub ZeroOutside : List ℤ → ℕ → ℕ → Type 0
ZeroOutside xs first end = (k : ℕ) → (k < first) ⊎ (end ≤ k) → at xs k ≡ pos 0

-- the numbers of ys are those of xs, up to where ys ends
abbrev pub BeginsAs : List ℤ → List ℤ → Type 0
BeginsAs xs ys = (k : ℕ) → k < length ys → at ys k ≡ at xs k
