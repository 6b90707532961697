-- How a decimal is written: the E formats of SINEX, in a lenient form.
use Rattle.std.specs.Prelude.{◌≡◌, ◌≢◌, ℕ, ℤ, pos, negsuc, ◌*ℤ◌, ◌-ℤ◌, ◌≤◌, ◌<◌, ◌⊎◌, List, [], ◌∷◌, ◌++◌, length, cond, eqb, take}
use Rattle.std.specs.List.{AllByRecursion}
use Rattle.decimal_e.specs.Decimals.{Decimal}
use Rattle.decimal_e.specs.Digits.{number}
use Rattle.decimal_e.specs.declared.cut.Kind.{Kind}
use Rattle.decimal_e.specs.declared.cut.Kind.TheVariants.{Blank, Sign, Digit, Point, Letter}

-- the bytes of a kind: space and tab; + and -; 0 to 9; the point; E, D, e and d
abbrev pub Is : Kind → ℕ → Type 0
Is Blank b = (b ≡ 32) ⊎ (b ≡ 9)
Is Sign b = (b ≡ 43) ⊎ (b ≡ 45)
Is Digit b = (48 ≤ b) × (b ≤ 57)
Is Point b = b ≡ 46
Is Letter b = ((b ≡ 69) ⊎ (b ≡ 68)) ⊎ ((b ≡ 101) ⊎ (b ≡ 100))

-- bytes of one kind, any number of them
abbrev pub IsRun : Kind → List ℕ → Type 0
IsRun kind bytes = AllByRecursion (Is kind) bytes

-- one byte of the kind, or none
abbrev pub IsOptional : Kind → List ℕ → Type 0
IsOptional kind bytes = (length bytes ≤ 1) × IsRun kind bytes

-- the digits of a numeral, with its sign and its point
pub record Mantissa : Type 0 where
  pub sign : List ℕ
  pub whole : List ℕ
  pub point : List ℕ
  pub fraction : List ℕ

-- the exponent of a numeral: a letter, a sign and digits
pub record Power : Type 0 where
  pub letter : List ℕ
  pub sign : List ℕ
  pub digits : List ℕ

pub record Numeral : Type 0 where
  pub mantissa : Mantissa
  pub power : Power

-- the bytes of a numeral, one piece after another
abbrev pub mantissa_text : Mantissa → List ℕ → List ℕ
mantissa_text m rest = m.sign ++ (m.whole ++ (m.point ++ (m.fraction ++ rest)))

abbrev pub power_text : Power → List ℕ → List ℕ
power_text p rest = p.letter ++ (p.sign ++ (p.digits ++ rest))

-- an optional sign, and digits with at most one point among or around them and at least one digit
pub record IsMantissa (m : Mantissa) : Type 0 where
  pub sign : IsOptional Sign m.sign
  pub whole : IsRun Digit m.whole
  pub point : IsOptional Point m.point
  pub fraction : IsRun Digit m.fraction
  pub behind : m.point ≡ [] → m.fraction ≡ []
  pub some : m.whole ++ m.fraction ≢ []

-- nothing; or a letter, an optional sign and at least one digit; or a sign alone and at least one digit
pub record IsPower (p : Power) : Type 0 where
  pub letter : IsOptional Letter p.letter
  pub sign : IsOptional Sign p.sign
  pub digits : IsRun Digit p.digits
  pub none : p.letter ++ p.sign ≡ [] → p.digits ≡ []
  pub some : p.letter ++ p.sign ≢ [] → p.digits ≢ []

-- the text is the numeral, with blanks before and after it
pub record Spells (n : Numeral) (text : List ℕ) : Type 0 where
  pub before : List ℕ
  pub after : List ℕ
  pub whole : text ≡ before ++ mantissa_text n.mantissa (power_text n.power after)
  pub blank_before : IsRun Blank before
  pub blank_after : IsRun Blank after
  pub mantissa : IsMantissa n.mantissa
  pub power : IsPower n.power

-- the text is in the grammar
abbrev pub IsMember : List ℕ → Type 0
IsMember text = (n : Numeral) × Spells n text

-- some text in the grammar begins so
abbrev pub IsBeginning : List ℕ → Type 0
IsBeginning front = (more : List ℕ) × IsMember (front ++ more)

-- at is the length of the longest prefix of the text that is a prefix of some text in the grammar
pub record IsLongestBeginning (text : List ℕ) (at : ℕ) : Type 0 where
  pub within : at ≤ length text
  pub begins : IsBeginning (take at text)
  pub longest : (k : ℕ) → at < k → k ≤ length text → IsBeginning (take k text) → ⊥

-- -1 for a minus, else 1
abbrev pub sign_of : List ℕ → ℤ
sign_of [] = pos 1
sign_of (byte ∷ _) = cond (eqb byte 45) (negsuc 0) (pos 1)

-- all digits of the mantissa
abbrev pub digits_of : Mantissa → List ℕ
digits_of m = m.whole ++ m.fraction

-- the number that a numeral writes
abbrev pub value_of : Numeral → Decimal
value_of n = record {
  mant = sign_of n.mantissa.sign *ℤ pos (number (digits_of n.mantissa));
  exp = sign_of n.power.sign *ℤ pos (number n.power.digits) -ℤ pos (length n.mantissa.fraction);
}
