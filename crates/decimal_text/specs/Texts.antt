-- Decimals in E notation, as SINEX writes its numbers (SINEX 2.02 format description, formats E21.15, E21.14 and E11.6):
-- a minus where there is one, a point, digits, E, the sign of the exponent and its two digits.
use Rattle.std.specs.Prelude.{◌≡◌, ◌≢◌, ◌≤◌, ◌<◌, ◌+◌, ◌-◌, ◌*◌, ◌/◌, ◌^◌, ℕ, ℤ, pos, ◌+ℤ◌, ◌-ℤ◌, ◌<ℤ◌, ◌≤ℤ◌, Bool, false, nat_lt, if◌then◌else◌, ◌==◌, List, ◌∷◌, ◌++◌, length, replicate, unsigned_abs}
use Rattle.std.specs.Int.{is_negative}
use Rattle.std.specs.Fmt.{decimal, sign_text}
use Rattle.whole_numbers.specs.Scaling.{ten_above, ten_below}
use Rattle.whole_numbers.specs.Least.{least_below}

-- ---- rounding
-- size * 10^shift, rounded to the nearest whole number, halves upwards
abbrev pub nearest : ℕ → ℤ → ℕ
nearest size shift = (2 * size * ten_above shift + ten_below shift) / (2 * ten_below shift)

-- the power is the least at which size * 10^exp, counted in units of 10^power and rounded, has no more than so many digits
pub record IsPowerOf (digits size : ℕ) (exp power : ℤ) : Type 0 where
  pub few : nearest size (exp -ℤ power) < 10 ^ digits
  pub least : (lower : ℤ) → lower <ℤ power → 10 ^ digits ≤ nearest size (exp -ℤ lower)

-- ---- texts
-- a number in at least so many digits, with zeros before it
abbrev pub zero_padded : ℕ → ℕ → List ℕ
zero_padded width n = replicate (width - length (decimal n)) 48 ++ decimal n

-- the byte of the sign of an exponent
abbrev pub sign_byte : ℤ → ℕ
sign_byte exponent = if is_negative exponent then 45 else 43

-- E, a sign and two digits
abbrev pub exponent_text : ℤ → List ℕ
exponent_text exponent = 69 ∷ sign_byte exponent ∷ zero_padded 2 (unsigned_abs exponent)

-- the text of 0.ddd * 10^exponent, with the digits of m
abbrev pub number_text : ℕ → Bool → ℕ → ℤ → List ℕ
number_text digits negative m exponent = sign_text negative ++ (46 ∷ zero_padded digits m ++ exponent_text exponent)

-- the text of mant * 10^exp, counted in units of 10^power; the last digit behind the point is one of these
abbrev pub text_at : ℕ → ℤ → ℤ → ℤ → List ℕ
text_at digits mant exp power =
    number_text digits (is_negative mant) (nearest (unsigned_abs mant) (exp -ℤ power)) (power +ℤ pos digits)

-- what is printed of mant * 10^exp: zeros with the exponent 0 where it is zero, else its text at its power
pub record IsPrinted (digits : ℕ) (mant exp : ℤ) (text : List ℕ) : Type 0 where
  pub zero : mant ≡ pos 0 → text ≡ number_text digits false 0 (pos 0)
  pub other : mant ≢ pos 0 → (power : ℤ) × (IsPowerOf digits (unsigned_abs mant) exp power × (text ≡ text_at digits mant exp power))

-- ---- the same as a function
-- How many places of size stand before the point of its text: the least k at which size * 10^-k, rounded to so many digits
-- behind the point, is below 1. Each number below 10^62 has one.
unfoldable pub places : ℕ → ℕ → ℕ
places digits size = least_below 64 (λ k. nat_lt (nearest size (pos digits -ℤ pos k)) (10 ^ digits))

-- its digits, as a whole number
abbrev pub rounded_digits : ℕ → ℕ → ℕ
rounded_digits digits size = nearest size (pos digits -ℤ pos (places digits size))

-- the printed exponent of size * 10^exp
abbrev pub printed_exponent : ℕ → ℕ → ℤ → ℤ
printed_exponent digits size exp = if size == 0 then pos 0 else exp +ℤ pos (places digits size)

-- the text of mant * 10^exp with so many digits
unfoldable pub e_text : ℕ → ℤ → ℤ → List ℕ
e_text digits mant exp =
    let size = unsigned_abs mant in
    number_text digits (is_negative mant) (rounded_digits digits size) (printed_exponent digits size exp)

-- ---- laws
-- one text is right
abbrev pub OnePrinted : Type 0
OnePrinted = (digits : ℕ) (mant exp : ℤ) (a b : List ℕ) → IsPrinted digits mant exp a → IsPrinted digits mant exp b → a ≡ b

-- and it is that of the function
abbrev pub PrintsText : Type 0
PrintsText = (digits : ℕ) (mant exp : ℤ) → unsigned_abs mant < 10 ^ 62 → IsPrinted digits mant exp (e_text digits mant exp)

-- The first digit of a number that isn't zero is not zero.
abbrev pub LeadingDigit : Type 0
LeadingDigit = (digits size : ℕ) (exp power : ℤ) → 1 ≤ digits
    → IsPowerOf digits size exp power → 10 ^ (digits - 1) ≤ nearest size (exp -ℤ power)

-- The exponent of a number with up to k digits is from exp + 1 to exp + k + 1.
abbrev pub ExponentWithin : Type 0
ExponentWithin = (digits size k : ℕ) (exp : ℤ) → size ≢ 0 → size < 10 ^ k → k ≤ 62
    → ((exp +ℤ pos 1) ≤ℤ printed_exponent digits size exp) × (printed_exponent digits size exp ≤ℤ (exp +ℤ pos (k + 1)))

-- A text with an exponent of two digits has a byte for each of these: the sign, the point, its digits, and four of the exponent.
abbrev pub HasLength : Type 0
HasLength = (digits : ℕ) (mant exp : ℤ) → 1 ≤ digits → digits ≤ 18 → unsigned_abs mant < 10 ^ 62
    → unsigned_abs (printed_exponent digits (unsigned_abs mant) exp) ≤ 99
    → length (e_text digits mant exp) ≡ digits + 5 + length (sign_text (is_negative mant))
