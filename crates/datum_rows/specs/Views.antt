-- What the code holds of motions and sites.
use Rattle.std.specs.Prelude.{◌≡◌, ◌≤◌, ◌<◌, ◌^◌, ℕ, ℤ, pos, List, Option, Some, None, length, unsigned_abs, slice_index_or}
use Rattle.datum_rows.specs.declared.motions.Axis.{Axis as CodeAxis}
use Rattle.datum_rows.specs.declared.motions.Axis.TheVariants as axes
use Rattle.datum_rows.specs.declared.motions.Motion.{Motion as CodeMotion}
use Rattle.datum_rows.specs.declared.motions.Motion.TheVariants as motions
use Rattle.datum_rows.specs.declared.motions.Position.{Position}
use Rattle.datum_rows.specs.declared.motions.Condition.{Condition as CodeCondition}
use Rattle.datum_rows.specs.declared.sites.Coordinate.{Coordinate}
use Rattle.control_doc.specs.declared.plans.Site.{Site}
use Rattle.neq_stack.specs.Neqs.{PlainNeq}
use Rattle.neq_stack.specs.Systems.{name_at}
use Rattle.datum_rows.specs.Conditions.{Axis, AxisX, AxisY, AxisZ, Motion, TranslationX, TranslationY, TranslationZ, RotationX, RotationY, RotationZ, Dilation, Triple, Condition, along, coefficients}
use Rattle.datum_rows.specs.Sites.{coefficient_of}

abbrev pub axis_view : CodeAxis → Axis
axis_view axes.X = AxisX
axis_view axes.Y = AxisY
axis_view axes.Z = AxisZ

abbrev pub motion_view : CodeMotion → Motion
motion_view motions.TranslationX = TranslationX
motion_view motions.TranslationY = TranslationY
motion_view motions.TranslationZ = TranslationZ
motion_view motions.RotationX = RotationX
motion_view motions.RotationY = RotationY
motion_view motions.RotationZ = RotationZ
motion_view motions.Dilation = Dilation

abbrev pub position_view : Position → Triple
position_view p = record { x = p.x; y = p.y; z = p.z }

abbrev pub condition_view : CodeCondition → Condition
condition_view c = record { motion = motion_view c.motion; sigma = c.sigma }

-- no number passes 10^12 in size
pub record IsNear (p : Position) : Type 0 where
  pub x : unsigned_abs p.x ≤ 10 ^ 12
  pub y : unsigned_abs p.y ≤ 10 ^ 12
  pub z : unsigned_abs p.z ≤ 10 ^ 12

-- the coefficient of a motion at a coordinate, and zero at what is none
abbrev pub coefficient_by : Motion → Option Coordinate → ℤ
coefficient_by motion None = pos 0
coefficient_by motion (Some c) = along (axis_view c.axis) (coefficients motion (position_view c.position))

abbrev pub IsNearBy : Option Coordinate → Type 0
IsNearBy None = Unit {0}
IsNearBy (Some c) = IsNear c.position

-- what stands at a parameter's place: its coordinate, or none
abbrev pub coordinate_at : List (Option Coordinate) → ℕ → Option Coordinate
coordinate_at coordinates k = slice_index_or coordinates k None

-- of each name of normal equations its coordinate of a site, or none
pub record AreCoordinates (sites : List Site) (neq : PlainNeq) (coordinates : List (Option Coordinate)) : Type 0 where
  pub count : length coordinates ≡ length neq.names
  pub each : (motion : Motion) (k : ℕ) → k < length neq.names → coefficient_by motion (coordinate_at coordinates k) ≡ coefficient_of sites neq motion (name_at neq.names k)
  pub near : (k : ℕ) → k < length neq.names → IsNearBy (coordinate_at coordinates k)
