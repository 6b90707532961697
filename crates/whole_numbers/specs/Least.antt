-- The least number that passes a test, and the greatest value of a function.
use Rattle.std.specs.Prelude.{ℕ, zero, suc, Bool, nat_lt, max, if◌then◌else◌}

-- from the least number below n that passes, or n, the same for n + 1
abbrev pub least_of_more : ℕ → (ℕ → Bool) → ℕ → ℕ
least_of_more n passes found = if nat_lt found n then found else (if passes n then n else suc n)

-- the least number below n that passes, or n where none does
unfoldable pub least_below : ℕ → (ℕ → Bool) → ℕ
least_below zero passes = 0
least_below (suc n) passes = least_of_more n passes (least_below n passes)

-- the greatest of f k over the k below n, and 0 where there is none
abbrev pub greatest_to : ℕ → (ℕ → ℕ) → ℕ
greatest_to zero f = 0
greatest_to (suc n) f = max (greatest_to n f) (f n)
