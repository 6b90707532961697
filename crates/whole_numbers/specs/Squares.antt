-- Square tables of whole numbers, row by row.
use Rattle.std.specs.Prelude.{◌≡◌, ◌≢◌, ◌≤◌, ◌<◌, ◌*◌, ℕ, ℤ, List, length, unsigned_abs}
use Rattle.whole_numbers.specs.Lists.{at, grid, AllAtMost}

-- a square table of numbers
pub record SquareTable : Type 0 where
  pub size : ℕ
  pub numbers : List ℤ

-- the number of row i and column k
abbrev pub square_at : SquareTable → ℕ → ℕ → ℤ
square_at s i k = grid s.size s.numbers i k

-- what each square keeps
pub record IsSquareTable (s : SquareTable) : Type 0 where
  pub few : s.size ≤ 1000
  pub square : length s.numbers ≡ s.size * s.size

-- t is s with v at (i, k)
pub record SetsNumber (s t : SquareTable) (i k : ℕ) (v : ℤ) : Type 0 where
  pub size : t.size ≡ s.size
  pub here : square_at t i k ≡ v
  pub others : (a b : ℕ) → a < s.size → b < s.size → ¬ ((a ≡ i) × (b ≡ k)) → square_at t a b ≡ square_at s a b
  pub small : (a : ℕ) → AllAtMost a s.numbers → unsigned_abs v ≤ a → AllAtMost a t.numbers

-- t is s with the numbers of x in column c
pub record SetsColumn (s t : SquareTable) (c : ℕ) (x : List ℤ) : Type 0 where
  pub size : t.size ≡ s.size
  pub here : (i : ℕ) → i < s.size → square_at t i c ≡ at x i
  pub others : (i k : ℕ) → i < s.size → k < s.size → k ≢ c → square_at t i k ≡ square_at s i k
  pub small : (a : ℕ) → AllAtMost a x → AllAtMost a s.numbers → AllAtMost a t.numbers

-- t is the transpose of s
pub record IsTranspose (s t : SquareTable) : Type 0 where
  pub size : t.size ≡ s.size
  pub turned : (i k : ℕ) → i < s.size → k < s.size → square_at t i k ≡ square_at s k i
  pub small : (a : ℕ) → AllAtMost a s.numbers → AllAtMost a t.numbers
