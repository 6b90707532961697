-- Quotients rounded to whole numbers.
use Rattle.std.specs.Prelude.{ℕ, ℤ, pos, negsuc, neg_ℤ, ◌+◌, ◌/◌, ◌%◌, min}

-- z / m rounded down, for m above 0
abbrev pub floor_over : ℤ → ℕ → ℤ
floor_over (pos a) m = pos (a / m)
floor_over (negsuc a) m = negsuc (a / m)

-- z / m rounded up, for m above 0
abbrev pub ceil_over : ℤ → ℕ → ℤ
ceil_over z m = neg_ℤ (floor_over (neg_ℤ z) m)

-- a / m rounded up
abbrev pub up_over : ℕ → ℕ → ℕ
up_over a m = a / m + min 1 (a % m)
