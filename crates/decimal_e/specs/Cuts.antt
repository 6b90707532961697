-- Texts cut into pieces, each as long as it can be.
use Rattle.std.specs.Prelude.{◌≡◌, ℕ, List, [], ◌∷◌, ◌++◌}
use Rattle.decimal_e.specs.Grammar.{Is, IsRun, IsOptional, Mantissa, Power, Numeral}
use Rattle.decimal_e.specs.declared.cut.Kind.{Kind}
use Rattle.decimal_e.specs.declared.cut.Kind.TheVariants.{Sign, Digit, Point, Letter}
use Rattle.decimal_e.specs.declared.cut.MantissaText.{MantissaText}
use Rattle.decimal_e.specs.declared.cut.PowerText.{PowerText}
use Rattle.decimal_e.specs.declared.cut.NumeralText.{NumeralText}

-- the list begins with a byte of the kind
abbrev pub Begins : Kind → List ℕ → Type 0
Begins kind [] = ⊥
Begins kind (byte ∷ _) = Is kind byte

-- the text is a run of the kind, as long as it can be, and the rest
pub record CutsRun (kind : Kind) (text front rest : List ℕ) : Type 0 where
  pub whole : text ≡ front ++ rest
  pub run : IsRun kind front
  pub stop : Begins kind rest → ⊥

-- the text is a byte of the kind, if it begins with one, and the rest
pub record CutsOptional (kind : Kind) (text front rest : List ℕ) : Type 0 where
  pub whole : text ≡ front ++ rest
  pub optional : IsOptional kind front
  pub stop : front ≡ [] → Begins kind rest → ⊥

-- the text is the pieces of a mantissa, each as long as it can be, and the rest
pub record CutsMantissa (text : List ℕ) (m : Mantissa) (rest : List ℕ) : Type 0 where
  pub sign : CutsOptional Sign text m.sign (m.whole ++ (m.point ++ (m.fraction ++ rest)))
  pub whole : CutsRun Digit (m.whole ++ (m.point ++ (m.fraction ++ rest))) m.whole (m.point ++ (m.fraction ++ rest))
  pub point : CutsOptional Point (m.point ++ (m.fraction ++ rest)) m.point (m.fraction ++ rest)
  pub fraction : CutsRun Digit (m.fraction ++ rest) m.fraction rest

-- the text is the pieces of an exponent, each as long as it can be, and the rest
pub record CutsPower (text : List ℕ) (p : Power) (rest : List ℕ) : Type 0 where
  pub letter : CutsOptional Letter text p.letter (p.sign ++ (p.digits ++ rest))
  pub sign : CutsOptional Sign (p.sign ++ (p.digits ++ rest)) p.sign (p.digits ++ rest)
  pub digits : CutsRun Digit (p.digits ++ rest) p.digits rest

-- the pieces as lists
abbrev pub mantissa_of : MantissaText → Mantissa
mantissa_of m = record { sign = m.sign.now; whole = m.whole.now; point = m.point.now; fraction = m.fraction.now }

abbrev pub power_of : PowerText → Power
power_of p = record { letter = p.letter.now; sign = p.sign.now; digits = p.digits.now }

abbrev pub numeral_of : NumeralText → Numeral
numeral_of n = record { mantissa = mantissa_of n.mantissa; power = power_of n.power }
