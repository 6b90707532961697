-- Decimals as fractions of whole numbers.
use Rattle.std.specs.Prelude.{◌≡◌, ◌≤ℤ◌, ℕ, ℤ, pos, neg_ℤ, ◌*ℤ◌, ◌*◌, ◌≤◌, unsigned_abs}
use Rattle.decimal_e.specs.Decimals.{Decimal}
use Rattle.whole_numbers.specs.Scaling.{ten_above, ten_below}

-- what stands above the line, and below it
abbrev pub numerator : Decimal → ℤ
numerator d = d.mant *ℤ pos (ten_above d.exp)

abbrev pub denominator : Decimal → ℕ
denominator d = ten_below d.exp

-- at most the number in size
abbrev pub IsAtMost : ℕ → Decimal → Type 0
IsAtMost most d = unsigned_abs (numerator d) ≤ most * denominator d

-- the fraction x / q is the decimal
abbrev pub Means : Decimal → ℤ → ℕ → Type 0
Means d x q = numerator d *ℤ pos q ≡ x *ℤ pos (denominator d)

-- nothing from low to high passes most in size
pub record LieWithin (most : ℕ) (low high : ℤ) : Type 0 where
  pub low_end : neg_ℤ (pos most) ≤ℤ low
  pub high_end : high ≤ℤ pos most
