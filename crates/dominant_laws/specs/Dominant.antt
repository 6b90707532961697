-- Dominant working tables: in each row the diagonal outweighs the rest, and all intervals are narrow. Diagonal dominance is a
-- classical condition; the factor and the bounds are this program's own.
use Rattle.std.specs.Prelude.{◌≤◌, ◌<◌, ◌*◌, ◌^◌, ℕ, ℤ, pos, ◌+ℤ◌, ◌≤ℤ◌, unsigned_abs, cond, eqb}
use Rattle.whole_numbers.specs.Sum.{total_to}
use Rattle.whole_numbers.specs.Intervals.{Interval, size, midpoint}
use Rattle.sys_model.specs.Systems.{Table}

-- the interval is one number, or two neighbours
pub record IsNarrow (w : Interval) : Type 0 where
  pub ordered : w.lo ≤ℤ w.hi
  pub width : w.hi ≤ℤ (w.lo +ℤ pos 1)

-- the sizes of the numbers of row i off the diagonal, in sum
abbrev pub off_diagonal_sum : ℕ → (ℕ → ℕ → ℤ) → ℕ → ℕ
off_diagonal_sum n m i = total_to n (λ j. cond (eqb j i) 0 (unsigned_abs (m i j)))

-- the diagonal of row i, at its midpoint, is at least 2^53 and at least four times the off-diagonal sum of the midpoints; each
-- interval of the row and of the right side is narrow, and the right side is at most 2^100 in size
pub record IsDominantRow (n : ℕ) (t : Table) (i : ℕ) : Type 0 where
  pub great : pos (2 ^ 53) ≤ℤ midpoint (t.entry i i)
  pub dominates : pos (4 * off_diagonal_sum n (λ k l. midpoint (t.entry k l)) i) ≤ℤ midpoint (t.entry i i)
  pub narrow : (j : ℕ) → j < n → IsNarrow (t.entry i j)
  pub narrow_right : IsNarrow (t.right i)
  pub right : size (t.right i) ≤ 2 ^ 100

-- each of the n rows is dominant
abbrev pub IsDominant : ℕ → Table → Type 0
IsDominant n t = (i : ℕ) → i < n → IsDominantRow n t i
