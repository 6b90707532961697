-- Lists of whole numbers, and square tables kept row by row.
use Rattle.std.specs.Prelude.{◌≡◌, ◌≤◌, ◌<◌, ◌+◌, ◌*◌, ℕ, ℤ, pos, List, length, slice_index, slice_index_or, unsigned_abs}

-- number k of the list
abbrev pub at : List ℤ → ℕ → ℤ
at xs k = slice_index_or xs k (pos 0)

-- the number at (i, k) of a table with n columns
abbrev pub grid : ℕ → List ℤ → ℕ → ℕ → ℤ
grid n xs i k = at xs (i * n + k)

-- each number of the list is at most a in size
abbrev pub AllAtMost : ℕ → List ℤ → Type 0
AllAtMost a xs = (k : ℕ) → k < length xs → unsigned_abs (at xs k) ≤ a

-- no number of the list passes a
abbrev pub NonePast : ℕ → List ℕ → Type 0
NonePast a xs = (k : ℕ) → k < length xs → slice_index xs k ≤ a

-- two functions have the same values below n
abbrev pub SameBelow : ℕ → (ℕ → ℤ) → (ℕ → ℤ) → Type 0
SameBelow n u v = (k : ℕ) → k < n → u k ≡ v k
