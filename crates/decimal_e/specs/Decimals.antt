-- Decimals: a whole number times a power of ten.
use Rattle.std.specs.Prelude.{◌≡◌, ◌≢◌, ℕ, ℤ, pos, negsuc, ◌+ℤ◌, ◌*ℤ◌, neg_ℤ, ◌≤ℤ◌, ◌<◌, ◌*◌, ◌^◌, ◌%◌, unsigned_abs, Option, None, Some}
use Rattle.whole_numbers.specs.Scaling.{ten_above, ten_below}

-- the number mant * 10^exp
pub record Decimal : Type 0 where
  pub mant : ℤ
  pub exp : ℤ

-- two decimals are one number: their fractions multiplied crosswise
pub record SameValue (a b : Decimal) : Type 0 where
  pub same : a.mant *ℤ pos (ten_above a.exp * ten_below b.exp) ≡ b.mant *ℤ pos (ten_above b.exp * ten_below a.exp)

-- zero has exponent 0, and another mantissa does not end in the digit 0
pub record IsCanonical (d : Decimal) : Type 0 where
  pub zero : d.mant ≡ pos 0 → d.exp ≡ pos 0
  pub other : d.mant ≢ pos 0 → unsigned_abs d.mant % 10 ≢ 0

-- d is the canonical form of the number a
pub record IsCanonicalOf (d a : Decimal) : Type 0 where
  pub same : SameValue d a
  pub canonical : IsCanonical d

-- within the bounds of the type: at most 36 digits, the exponent from -800 to 120
pub record IsBounded (d : Decimal) : Type 0 where
  pub mant : unsigned_abs d.mant < 10 ^ 36
  pub low : negsuc 799 ≤ℤ d.exp
  pub high : d.exp ≤ℤ pos 120

-- the number in canonical form; nothing exactly where that passes the bounds of the type
abbrev pub IsDecOf : Decimal → Option Decimal → Type 0
IsDecOf number None = (d : Decimal) × (IsCanonicalOf d number × ¬ (IsBounded d))
IsDecOf number (Some d) = IsCanonicalOf d number × IsBounded d

-- the product, which need not be canonical
abbrev pub product : Decimal → Decimal → Decimal
product a b = record { mant = a.mant *ℤ b.mant; exp = a.exp +ℤ b.exp }

-- the number of this size with the sign of another
abbrev pub signed_like : ℤ → ℕ → ℤ
signed_like (pos _) size = pos size
signed_like (negsuc _) size = neg_ℤ (pos size)

-- two canonical decimals with one value are one
abbrev pub OneCanonical : Type 0
OneCanonical = (a b : Decimal) → IsCanonical a → IsCanonical b → SameValue a b → a ≡ b

-- each decimal has one canonical form, and no other
abbrev pub OneForm : Type 0
OneForm = (a : Decimal) → (d : Decimal) × (IsCanonicalOf d a × ((e : Decimal) → IsCanonicalOf e a → e ≡ d))
