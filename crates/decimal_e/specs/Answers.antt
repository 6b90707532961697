-- What `read_dec` answers to a text.
use Rattle.std.specs.Prelude.{◌≡◌, ◌≢◌, ℕ, pos, negsuc, ◌≤ℤ◌, ◌<◌, ◌⊎◌, List, Result, Ok, Err}
use Rattle.decimal_e.specs.Decimals.{Decimal, IsCanonicalOf}
use Rattle.decimal_e.specs.Digits.{number, IsTooLong}
use Rattle.decimal_e.specs.Grammar.{IsRun, Numeral, Spells, IsMember, IsLongestBeginning, digits_of, value_of}
use Rattle.decimal_e.specs.declared.cut.Kind.TheVariants.{Blank}
use Rattle.decimal_e.specs.declared.read.DecFault.{DecFault}
use Rattle.decimal_e.specs.declared.read.DecFault.TheVariants.{Empty, Char, Digits, Exponent}

-- zero, or with a canonical exponent from -400 to 60
pub record IsReadable (d : Decimal) : Type 0 where
  pub low : d.mant ≢ pos 0 → negsuc 399 ≤ℤ d.exp
  pub high : d.mant ≢ pos 0 → d.exp ≤ℤ pos 60

-- the written exponent passes 999 in size, or the number is not zero and has a canonical exponent outside -400 to 60
abbrev pub IsFarOut : Numeral → Type 0
IsFarOut n = (999 < number n.power.digits) ⊎ ((d : Decimal) × (IsCanonicalOf d (value_of n) × ¬ (IsReadable d)))

-- What a numeral gives: its number in canonical form; or more than 18 digits from the first that is not 0 to the last that is not 0; or it is far out.
abbrev pub IsValue : Numeral → Result Decimal DecFault → Type 0
IsValue n (Ok d) = (¬ (IsTooLong (digits_of n.mantissa))) × (¬ (IsFarOut n)) × IsCanonicalOf d (value_of n)
IsValue n (Err Empty) = ⊥
IsValue n (Err (Char at)) = ⊥
IsValue n (Err Digits) = IsTooLong (digits_of n.mantissa)
IsValue n (Err Exponent) = (¬ (IsTooLong (digits_of n.mantissa))) × IsFarOut n

-- what is wrong with a text
abbrev pub IsFault : List ℕ → DecFault → Type 0
-- only blanks or nothing
IsFault text Empty = IsRun Blank text
-- not in the grammar
IsFault text (Char at) = (¬ (IsRun Blank text)) × (¬ (IsMember text)) × IsLongestBeginning text at
-- in the grammar, by a numeral that is too long or far out
IsFault text Digits = (n : Numeral) × (Spells n text × IsValue n (Err Digits))
IsFault text Exponent = (n : Numeral) × (Spells n text × IsValue n (Err Exponent))

-- The answer to a text: the canonical form of the number that it writes, or what is wrong with it.
abbrev pub IsAnswer : List ℕ → Result Decimal DecFault → Type 0
IsAnswer text (Ok d) = (n : Numeral) × (Spells n text × IsValue n (Ok d))
IsAnswer text (Err fault) = IsFault text fault

-- The grammar is unambiguous: a text has one numeral, and one answer is right.
abbrev pub OneNumeral : Type 0
OneNumeral = (text : List ℕ) (n m : Numeral) → Spells n text → Spells m text → n ≡ m

abbrev pub OneAnswer : Type 0
OneAnswer = (text : List ℕ) (r s : Result Decimal DecFault) → IsAnswer text r → IsAnswer text s → r ≡ s
