-- The coordinates of the datum's sites among the parameters of normal equations.
use Rattle.std.specs.Prelude.{ℕ, ℤ, pos, Bool, ◌&&◌, ◌==◌, if◌then◌else◌, List, length, filter, Option, Some, None, codes, slice_index_or}
use Rattle.std.specs.List.{find, position_or_len}
use Rattle.std.specs.Str.{bytes_eq}
use Rattle.decimal_e.specs.Scales.{decimal_interval}
use Rattle.param_ids.specs.Plain.{PlainId}
use Rattle.control_doc.specs.declared.plans.Site.{Site}
use Rattle.decimal_e.specs.Decimals.{Decimal}
use Rattle.neq_stack.specs.Neqs.{PlainNeq}
use Rattle.neq_stack.specs.ByName.{place_in}
use Rattle.datum_rows.specs.Conditions.{Motion, Axis, AxisX, AxisY, AxisZ, Triple, along, coefficients}

-- ---- names
-- the type of a coordinate
abbrev pub kind_of : Axis → List ℕ
kind_of AxisX = codes "STAX  "
kind_of AxisY = codes "STAY  "
kind_of AxisZ = codes "STAZ  "

-- the axis of a type, if it is a coordinate's
abbrev pub axis_of : List ℕ → Option Axis
axis_of kind =
    if bytes_eq kind (kind_of AxisX) then Some AxisX
    else (if bytes_eq kind (kind_of AxisY) then Some AxisY
    else (if bytes_eq kind (kind_of AxisZ) then Some AxisZ else None))

-- a name has a site's code, point and solution
abbrev pub is_of_site : PlainId → Site → Bool
is_of_site id site = bytes_eq id.code site.code && (bytes_eq id.point site.point && bytes_eq id.soln site.soln)

-- it is that of a coordinate of the site, at any moment
abbrev pub is_at : Site → Axis → PlainId → Bool
is_at site axis id = is_of_site id site && bytes_eq id.kind (kind_of axis)

-- exactly one of the names is that of a coordinate
abbrev pub has_one : List PlainId → Site → Axis → Bool
has_one names site axis = length (filter (is_at site axis) names) == 1

-- so it is for each axis
abbrev pub is_matched : List PlainId → Site → Bool
is_matched names site = has_one names site AxisX && (has_one names site AxisY && has_one names site AxisZ)

-- ---- positions
abbrev pub zero_decimal : Decimal
zero_decimal = record { mant = pos 0; exp = pos 0 }

-- an a priori value in whole metres, rounded down
abbrev pub metres : PlainNeq → Site → Axis → ℤ
metres neq site axis = (decimal_interval (slice_index_or neq.apriori (position_or_len (is_at site axis) neq.names) zero_decimal) (pos 0)).lo

abbrev pub position : PlainNeq → Site → Triple
position neq site = record { x = metres neq site AxisX; y = metres neq site AxisY; z = metres neq site AxisZ }

-- ---- coefficients
-- the coefficient of a motion at a coordinate of a site
abbrev pub coefficient_along : PlainNeq → Motion → Option Site → Option Axis → ℤ
coefficient_along neq motion (Some site) (Some axis) = along axis (coefficients motion (position neq site))
coefficient_along neq motion site axis = pos 0

-- the coefficient of a motion at a parameter's name: zero where it is no coordinate of a site of the datum
abbrev pub coefficient_of : List Site → PlainNeq → Motion → PlainId → ℤ
coefficient_of sites neq motion id = coefficient_along neq motion (find (is_of_site id) sites) (axis_of id.kind)

-- the same, and zero where the normal equations have no such parameter
abbrev pub coefficient_in : List Site → PlainNeq → Motion → PlainId → ℤ
coefficient_in sites neq motion id = at_place (place_in neq.names id)
  where
    at_place : Option ℕ → ℤ
    at_place None = pos 0
    at_place (Some i) = coefficient_of sites neq motion id
