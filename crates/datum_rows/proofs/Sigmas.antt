-- Standard deviations are positive and short.
use Rattle.std.proofs.Common.{◌≢◌, ◌<◌, ◌^◌, pos, ◌<ℤ◌, List, [], ◌∷◌, ◌++◌, Option, Some, None, IfSome, unsigned_abs, arith}
use Rattle.std.proofs.lemmas.Int.{ints}
use Rattle.std.proofs.Math.Nat.{mul-pos}
use Rattle.inverse_squares.specs.Quotients.{square}
use Rattle.decimal_e.specs.Decimals.{Decimal}
use Rattle.control_doc.specs.Plain.{PlainDatum}
use Rattle.control_doc.specs.Valid.{IsPositiveAndShort, HasPositiveSigmas}
use Rattle.datum_rows.specs.Conditions.{Motion, TranslationX, TranslationY, TranslationZ, RotationX, RotationY, RotationZ, Dilation, Condition, given, conditions}

-- each member has a property
abbrev pub Each : {X : Type 0} → (X → Type 0) → List X → Type 0
Each P [] = Unit {0}
Each P (x ∷ xs) = P x × Each P xs

pub each_append : {X : Type 0} (P : X → Type 0) (xs ys : List X) → Each P xs → Each P ys → Each P (xs ++ ys)
each_append P [] ys one other = other
each_append P (x ∷ xs) ys one other = (one.0, each_append P xs ys one.1 other)

-- a condition's standard deviation is positive and short
abbrev pub IsFine : Condition → Type 0
IsFine condition = IsPositiveAndShort condition.sigma

pub fine_given : (sigma : Option Decimal) (motions : List Motion) → IfSome sigma IsPositiveAndShort → Each IsFine (given sigma motions)
fine_given None motions fine = tt
fine_given (Some sigma) [] fine = tt
fine_given (Some sigma) (motion ∷ motions) fine = (fine, fine_given (Some sigma) motions fine)

pub fine_conditions : (datum : PlainDatum) → HasPositiveSigmas datum → Each IsFine (conditions datum)
fine_conditions datum fine =
    let t = given datum.translation (TranslationX ∷ TranslationY ∷ TranslationZ ∷ []) in
    let r = given datum.rotation (RotationX ∷ RotationY ∷ RotationZ ∷ []) in
    let s = given datum.scale (Dilation ∷ []) in
    each_append IsFine t (r ++ s) (fine_given datum.translation (TranslationX ∷ TranslationY ∷ TranslationZ ∷ []) fine.translation)
    (each_append IsFine r s (fine_given datum.rotation (RotationX ∷ RotationY ∷ RotationZ ∷ []) fine.rotation) (fine_given datum.scale (Dilation ∷ []) fine.scale))

pub sigma_parts : (d : Decimal) → IsPositiveAndShort d → (pos 0 <ℤ d.mant) × (unsigned_abs d.mant < 10 ^ 18)
sigma_parts d fine = grind (arith, ints)

pub sigma_some : (d : Decimal) → IsPositiveAndShort d → d.mant ≢ pos 0
sigma_some d fine = let parts = sigma_parts d fine in λ none. omega (arith, ints)

pub square_some : (d : Decimal) → IsPositiveAndShort d → 0 < square d
square_some d fine = let parts = sigma_parts d fine in let one : 0 < unsigned_abs d.mant = omega (arith, ints) in mul-pos one one
