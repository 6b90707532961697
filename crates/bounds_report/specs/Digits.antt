-- Whole numbers rounded to significant digits.
use Rattle.std.specs.Prelude.{ℕ, suc, ℤ, pos, negsuc, neg_ℤ, ◌+◌, ◌*◌, ◌/◌, ◌^◌, nat_lt, unsigned_abs}
use Rattle.whole_numbers.specs.Least.{least_below}

-- the multiple of 10^k next to v, halves away from zero
abbrev pub rounded_at : ℕ → ℤ → ℤ
rounded_at k (pos a) = pos ((a + 10 ^ k / 2) / 10 ^ k * 10 ^ k)
rounded_at k (negsuc a) = neg_ℤ (pos ((suc a + 10 ^ k / 2) / 10 ^ k * 10 ^ k))

-- v rounded to 15 significant digits
abbrev pub to_15_digits : ℤ → ℤ
to_15_digits v = rounded_at (least_below 40 (λ k. nat_lt (unsigned_abs v) (10 ^ (15 + k)))) v
