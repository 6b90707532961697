-- Normal equations with the rows of a datum.
use Rattle.std.specs.Prelude.{◌≡◌, ◌≤◌, ◌<◌, ◌^◌, ℕ, ℤ, pos, ◌*ℤ◌, ◌-ℤ◌, Bool, false, ◌&&◌, not, is_some, List, length, Option, Some, None, Result, Ok, Err}
use Rattle.std.specs.List.{find}
use Rattle.stated_order.specs.First.{HoldsLower, IsFirstLowerFailure}
use Rattle.stated_order.specs.Steps.{IsOne, Then, Through}
use Rattle.whole_numbers.specs.Intervals.{Interval, interval_add, size}
use Rattle.whole_numbers.specs.Lists.{at}
use Rattle.sym_blocks.specs.Tables.{entry_at, before}
use Rattle.inverse_squares.specs.Quotients.{IsOverSquare}
use Rattle.param_ids.specs.Plain.{PlainId}
use Rattle.control_doc.specs.Plain.{PlainDatum}
use Rattle.control_doc.specs.declared.plans.Site.{Site}
use Rattle.neq_stack.specs.Neqs.{PlainNeq}
use Rattle.neq_stack.specs.ByName.{entry_in}
use Rattle.neq_stack.specs.Systems.{name_at}
use Rattle.datum_rows.specs.Conditions.{Condition, conditions, reach}
use Rattle.datum_rows.specs.Sites.{is_matched, is_of_site, axis_of, coefficient_of}

-- why rows are not added: a site of which a coordinate is not there exactly once, or an interval that is too great, at a row and column
pub data Fault : Type 0 where
  Unmatched : Site → Fault
  Range : ℕ → ℕ → Fault

-- ---- sites
abbrev pub matched_in : Option Site → Result (Unit {0}) Fault
matched_in None = Ok tt
matched_in (Some site) = Err (Unmatched site)

-- each site has its three coordinates, or the first that has not
abbrev pub matched : List Site → List PlainId → Result (Unit {0}) Fault
matched sites names = matched_in (find (λ site. not (is_matched names site)) sites)

-- ---- intervals
-- the coefficient of a condition at the parameter at place i
abbrev pub coefficient_at : List Site → PlainNeq → Condition → ℕ → ℤ
coefficient_at sites neq condition i = coefficient_of sites neq condition.motion (name_at neq.names i)

-- the interval that a condition adds at (i, j): the product of two coefficients over the square of the standard deviation, times
-- 10^(18 - t_i - t_j), and over 10^14 for a rotation or a dilation
abbrev pub IsRowInterval : List Site → PlainNeq → Condition → ℕ → ℕ → Interval → Type 0
IsRowInterval sites neq condition i j w =
    IsOverSquare (coefficient_at sites neq condition i *ℤ coefficient_at sites neq condition j) condition.sigma
    (pos 18 -ℤ pos (reach condition.motion) -ℤ at neq.scales i -ℤ at neq.scales j) w

-- it is at most 10^34 in size
abbrev pub RowFits : List Site → PlainNeq → Condition → ℕ → ℕ → Type 0
RowFits sites neq condition i j = (w : Interval) × IsRowInterval sites neq condition i j w × (size w ≤ 10 ^ 34)

-- ---- one condition
-- the intervals of the condition are added to those of the matrix, and all else is as before
pub record IsWithRow (sites : List Site) (neq : PlainNeq) (condition : Condition) (after : PlainNeq) : Type 0 where
  pub names : after.names ≡ neq.names
  pub right : after.right ≡ neq.right
  pub apriori : after.apriori ≡ neq.apriori
  pub units : after.units ≡ neq.units
  pub scales : after.scales ≡ neq.scales
  pub rows : after.table.size ≡ neq.table.size
  pub whole : length after.table.entries ≡ before after.table.size
  pub entries : (i j : ℕ) → i < length neq.names → j < length neq.names
      → (w : Interval) × IsRowInterval sites neq condition i j w × (entry_at after.table i j ≡ interval_add (entry_at neq.table i j) w)

-- the normal equations with a condition where its intervals fit, or else the first that does not, row by row up to the diagonal
abbrev pub AddsRow : List Site → PlainNeq → Condition → Result PlainNeq Fault → Type 0
AddsRow sites neq condition (Ok after) = HoldsLower (length neq.names) (RowFits sites neq condition) × IsWithRow sites neq condition after
AddsRow sites neq condition (Err (Unmatched site)) = ⊥
AddsRow sites neq condition (Err (Range row col)) = IsFirstLowerFailure (length neq.names) (RowFits sites neq condition) row col

-- ---- the datum
-- The normal equations with all conditions of a datum, or the first cause for which it is not added: a site that is not matched, then an
-- interval that is too great, one condition after another.
abbrev pub IsAddition : PlainDatum → PlainNeq → Result PlainNeq Fault → Type 0
IsAddition datum neq = Then (λ r. r ≡ matched datum.sites neq.names) (λ all_matched. Through (AddsRow datum.sites) neq (conditions datum))

-- a datum gives one set of normal equations at most, or has one first cause, and never both
abbrev pub OneAddition : Type 0
OneAddition = (datum : PlainDatum) (neq : PlainNeq) → neq.table.size ≡ length neq.names → IsOne (IsAddition datum neq)

-- ---- where a datum adds
-- a name is that of a coordinate of one of the sites
abbrev pub is_coordinate_of : List Site → PlainId → Bool
is_coordinate_of sites id = is_some (find (is_of_site id) sites) && is_some (axis_of id.kind)

-- a datum changes no interval but those at two coordinates of its sites
abbrev pub OnlyAtSites : Type 0
OnlyAtSites = (datum : PlainDatum) (neq after : PlainNeq) (one other : PlainId)
    → IsAddition datum neq (Ok after) → (is_coordinate_of datum.sites one && is_coordinate_of datum.sites other) ≡ false → entry_in after one other ≡ entry_in neq one other
