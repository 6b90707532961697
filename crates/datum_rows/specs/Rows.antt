-- Intervals of conditions at places, by the coordinates of the parameters there.
use Rattle.std.specs.Prelude.{◌≡◌, ◌≤◌, ◌<◌, ◌^◌, ◌⊎◌, ℕ, ℤ, pos, ◌*ℤ◌, ◌-ℤ◌, List, [], ◌∷◌, Option, Some, None, length, All}
use Rattle.stated_order.specs.First.{HoldsLower, IsFirstLowerFailure}
use Rattle.whole_numbers.specs.Intervals.{Interval, interval_add, size}
use Rattle.whole_numbers.specs.Lists.{at}
use Rattle.sym_blocks.specs.Tables.{SymTable, before, entry_at}
use Rattle.inverse_squares.specs.Quotients.{IsOverSquare}
use Rattle.param_ids.specs.Tables.{IsScale}
use Rattle.control_doc.specs.Valid.{IsPositiveAndShort}
use Rattle.datum_rows.specs.declared.motions.Condition.{Condition as CodeCondition}
use Rattle.datum_rows.specs.declared.sites.Coordinate.{Coordinate}
use Rattle.datum_rows.specs.declared.rows.Place.{Place}
use Rattle.datum_rows.specs.Conditions.{Condition, reach}
use Rattle.datum_rows.specs.Views.{condition_view, coefficient_by, coordinate_at, IsNearBy}

-- as many exponents as coordinates, in their ranges
pub record AreLaidOut (coordinates : List (Option Coordinate)) (scales : List ℤ) : Type 0 where
  pub lengths : length scales ≡ length coordinates
  pub near : (k : ℕ) → k < length coordinates → IsNearBy (coordinate_at coordinates k)
  pub scaled : All IsScale scales

-- the interval of a condition at two places
abbrev pub IsRowAt : List (Option Coordinate) → List ℤ → Condition → ℕ → ℕ → Interval → Type 0
IsRowAt coordinates scales condition i j w =
    IsOverSquare (coefficient_by condition.motion (coordinate_at coordinates i) *ℤ coefficient_by condition.motion (coordinate_at coordinates j)) condition.sigma
    (pos 18 -ℤ pos (reach condition.motion) -ℤ at scales i -ℤ at scales j) w

-- it is at most 10^34 in size
abbrev pub FitsAt : List (Option Coordinate) → List ℤ → Condition → ℕ → ℕ → Type 0
FitsAt coordinates scales condition i j = (w : Interval) × IsRowAt coordinates scales condition i j w × (size w ≤ 10 ^ 34)

-- so it is at all places
abbrev pub FitsAll : List (Option Coordinate) → List ℤ → Condition → Type 0
FitsAll coordinates scales condition = HoldsLower (length coordinates) (FitsAt coordinates scales condition)

-- ---- what is tested
abbrev pub IsMisfit : List (Option Coordinate) → List ℤ → Condition → Option Place → Type 0
IsMisfit coordinates scales condition None = ⊥
IsMisfit coordinates scales condition (Some place) = IsFirstLowerFailure (length coordinates) (FitsAt coordinates scales condition) place.row place.col

-- the first place of a condition, one condition after another, at which its interval does not fit
abbrev pub AreTested : List (Option Coordinate) → List ℤ → List CodeCondition → Option Place → Type 0
AreTested coordinates scales [] found = found ≡ None
AreTested coordinates scales (condition ∷ rest) found =
    (FitsAll coordinates scales (condition_view condition) × AreTested coordinates scales rest found) ⊎ IsMisfit coordinates scales (condition_view condition) found

-- each has its standard deviation and fits
abbrev pub AreFitting : List (Option Coordinate) → List ℤ → List CodeCondition → Type 0
AreFitting coordinates scales [] = Unit {0}
AreFitting coordinates scales (condition ∷ rest) = FitsAll coordinates scales (condition_view condition) × AreFitting coordinates scales rest

abbrev pub AreFine : List CodeCondition → Type 0
AreFine [] = Unit {0}
AreFine (condition ∷ rest) = IsPositiveAndShort condition.sigma × AreFine rest

-- ---- what is added
abbrev pub IsAddedAt : List (Option Coordinate) → List ℤ → Condition → SymTable → SymTable → ℕ → ℕ → Type 0
IsAddedAt coordinates scales condition old new i j = (w : Interval) × IsRowAt coordinates scales condition i j w × (entry_at new i j ≡ interval_add (entry_at old i j) w)

-- a table with the intervals of a condition
pub record IsTableWith (coordinates : List (Option Coordinate)) (scales : List ℤ) (condition : Condition) (old new : SymTable) : Type 0 where
  pub rows : new.size ≡ old.size
  pub whole : length new.entries ≡ before new.size
  pub entries : (i j : ℕ) → i < old.size → j ≤ i → IsAddedAt coordinates scales condition old new i j

-- and with those of some
abbrev pub AreAllAdded : List (Option Coordinate) → List ℤ → List CodeCondition → SymTable → SymTable → Type 0
AreAllAdded coordinates scales [] old new = new ≡ old
AreAllAdded coordinates scales (condition ∷ rest) old new = (mid : SymTable) × IsTableWith coordinates scales (condition_view condition) old mid × AreAllAdded coordinates scales rest mid new

-- no interval of a table passes most in size
abbrev pub IsTableAtMost : ℕ → SymTable → Type 0
IsTableAtMost most table = (i j : ℕ) → i < table.size → j ≤ i → size (entry_at table i j) ≤ most
