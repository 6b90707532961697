-- The conditions of a datum: a network that is not moved, not turned and not scaled, each within a standard deviation (Brockmann 1997,
-- section 2.6).
--
-- A condition is one row with coefficients at the coordinates of the datum's sites, with the right side zero, so that it holds at the a
-- priori values.
use Rattle.std.specs.Prelude.{ℕ, ℤ, pos, neg_ℤ, ◌++◌, ◌∷◌, List, [], map, Option, Some, None}
use Rattle.decimal_e.specs.Decimals.{Decimal}
use Rattle.control_doc.specs.Plain.{PlainDatum}

-- what a condition keeps a network from
pub data Motion : Type 0 where
  TranslationX : Motion
  TranslationY : Motion
  TranslationZ : Motion
  RotationX : Motion
  RotationY : Motion
  RotationZ : Motion
  Dilation : Motion

-- an axis of coordinates
pub data Axis : Type 0 where
  AxisX : Axis
  AxisY : Axis
  AxisZ : Axis

-- three numbers, one for each axis
pub record Triple : Type 0 where
  pub x : ℤ
  pub y : ℤ
  pub z : ℤ

abbrev pub triple : ℤ → ℤ → ℤ → Triple
triple x y z = record { x = x; y = y; z = z }

-- the number for an axis
abbrev pub along : Axis → Triple → ℤ
along AxisX p = p.x
along AxisY p = p.y
along AxisZ p = p.z

-- the coefficients of a motion at a site's position
abbrev pub coefficients : Motion → Triple → Triple
coefficients TranslationX p = triple (pos 1) (pos 0) (pos 0)
coefficients TranslationY p = triple (pos 0) (pos 1) (pos 0)
coefficients TranslationZ p = triple (pos 0) (pos 0) (pos 1)
coefficients RotationX p = triple (pos 0) (neg_ℤ p.z) p.y
coefficients RotationY p = triple p.z (pos 0) (neg_ℤ p.x)
coefficients RotationZ p = triple (neg_ℤ p.y) p.x (pos 0)
coefficients Dilation p = p

-- Positions are in metres. Rotations and dilations are counted in metres at 10^7 metres from the centre, so that the product of two of
-- their coefficients is over 10^14.
abbrev pub reach : Motion → ℕ
reach TranslationX = 0
reach TranslationY = 0
reach TranslationZ = 0
reach RotationX = 14
reach RotationY = 14
reach RotationZ = 14
reach Dilation = 14

-- a motion and the standard deviation of its row
pub record Condition : Type 0 where
  pub motion : Motion
  pub sigma : Decimal

-- these motions with a standard deviation, or none where it is not given
abbrev pub given : Option Decimal → List Motion → List Condition
given None motions = []
given (Some sigma) motions = map (λ motion. record { motion = motion; sigma = sigma }) motions

-- the conditions of a datum, in order
abbrev pub conditions : PlainDatum → List Condition
conditions datum =
    given datum.translation (TranslationX ∷ TranslationY ∷ TranslationZ ∷ [])
    ++ (given datum.rotation (RotationX ∷ RotationY ∷ RotationZ ∷ []) ++ given datum.scale (Dilation ∷ []))
