-- The midpoints of a table of intervals, in its units.
use Rattle.std.specs.Prelude.{◌≡◌, ◌<◌, ℕ, ℤ}
use Rattle.whole_numbers.specs.Intervals.{midpoint}
use Rattle.whole_numbers.specs.Squares.{SquareTable, square_at}
use Rattle.sym_blocks.specs.Tables.{SymTable, entry_at}

-- the midpoint of the interval (i, j)
abbrev pub midpoints : SymTable → ℕ → ℕ → ℤ
midpoints a i j = midpoint (entry_at a i j)

-- the first m rows of the square are the midpoints of the table
abbrev pub HasRows : ℕ → SymTable → SquareTable → Type 0
HasRows m a s = (i k : ℕ) → i < m → k < a.size → square_at s i k ≡ midpoints a i k
