-- Dominance as the lemmas take it.
use Rattle.std.specs.Prelude.{◌≡◌, ◌≤◌, ◌<◌, ◌*◌, ◌^◌, ℕ, ℤ, pos, ◌*ℤ◌, ◌≤ℤ◌, unsigned_abs}
use Rattle.whole_numbers.specs.Sum.{total_to}
use Rattle.whole_numbers.specs.Intervals.{size, midpoint}
use Rattle.sys_model.specs.Systems.{Table}
use Rattle.dominant_laws.specs.Dominant.{IsNarrow}

-- a symmetric table of midpoints whose diagonals outweigh their rows
pub record IsGreat (n : ℕ) (m : ℕ → ℕ → ℤ) : Type 0 where
  pub few : n ≤ 1000
  pub sym : (i j : ℕ) → i < n → j < n → m i j ≡ m j i
  pub small : (i j : ℕ) → i < n → j < n → unsigned_abs (m i j) ≤ 2 ^ 61
  pub great : (i : ℕ) → i < n → pos (2 ^ 53) ≤ℤ m i i
  pub rows : (i : ℕ) → i < n → pos (4 * total_to n (λ j. unsigned_abs (m i j))) ≤ℤ (pos 5 *ℤ m i i)

-- a dominant table within the sizes of a working table
pub record IsDominantTable (n : ℕ) (t : Table) : Type 0 where
  pub table : IsGreat n (λ i j. midpoint (t.entry i j))
  pub narrow : (i j : ℕ) → i < n → j < n → IsNarrow (t.entry i j)
  pub narrow_right : (i : ℕ) → i < n → IsNarrow (t.right i)
  pub rights : (i : ℕ) → i < n → size (t.right i) ≤ 2 ^ 100
