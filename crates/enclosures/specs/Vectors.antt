-- The bound that a start vector keeps.
use Rattle.std.specs.Prelude.{◌≤◌, ◌^◌, ℕ, ℤ, unsigned_abs}
use Rattle.whole_numbers.specs.Sum.{total_to}

-- the sizes of the first n numbers add up to at most 2^64
abbrev pub IsSmall : ℕ → (ℕ → ℤ) → Type 0
IsSmall n y = total_to n (λ i. unsigned_abs (y i)) ≤ 2 ^ 64
