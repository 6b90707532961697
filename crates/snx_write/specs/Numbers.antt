-- For private functions alone: which numbers can be printed.
use Rattle.std.specs.Prelude.{◌≤◌, ℕ, ℤ, pos, negsuc, ◌≤ℤ◌, unsigned_abs}
use Rattle.decimal_text.specs.Texts.{printed_exponent}

-- mant * 10^exp has an exponent of two digits where it is printed with so many digits
pub record IsPrintable (digits : ℕ) (mant exp : ℤ) : Type 0 where
  pub low : negsuc 999 ≤ℤ exp
  pub high : exp ≤ℤ pos 1000
  pub exponent : unsigned_abs (printed_exponent digits (unsigned_abs mant) exp) ≤ 99
