-- The steps from a solution to normal equations in intervals by name: the names of its parameters, the table of its standard deviations, and
-- the normal equations of a table, brought to the a priori values and without the table of the constraints. Each is the step's result, or
-- the first cause for which there is none.
use Rattle.std.specs.Prelude.{◌≡◌, ◌≤◌, ◌<◌, ◌^◌, ◌&&◌, ℕ, ℤ, pos, List, length, map, replicate, Option, Some, None, Result, Ok, Err, Contains, slice_get}
use Rattle.std.specs.List.{find}
use Rattle.stated_order.specs.First.{HoldsLower}
use Rattle.stated_order.specs.Steps.{IsOne, Then, Renamed}
use Rattle.whole_numbers.specs.Intervals.{Interval, interval_sub, size}
use Rattle.decimal_e.specs.Decimals.{Decimal}
use Rattle.inverse_squares.specs.Quotients.{IsOverSquare}
use Rattle.sym_blocks.specs.Tables.{SymTable, entry_at, before, zero_interval}
use Rattle.param_ids.specs.Plain.{PlainId}
use Rattle.param_ids.specs.Tables.{ScaleMap}
use Rattle.snx_rows.specs.Named.{value_of, unit_of}
use Rattle.snx_rows.specs.declared.rows.Row.{Row}
use Rattle.neq_stack.specs.Neqs.{PlainNeq}
use Rattle.neq_stack.specs.Systems.{name_at}
use Rattle.difference_products.specs.Products.{Place}
use Rattle.apriori_shift.specs.Shifts.{IsShift}
use Rattle.named_tables.specs.Deviations.{sigma_of, sigma_at}
use Rattle.named_tables.specs.Naming.{lacks_row, matched_in, matched, filled, AreNamesOf}
use Rattle.named_tables.specs.Weighted.{entry_power, scale_of, weighted_interval, WeightFits}
use Rattle.named_tables.specs.Tables.{IsUnfitEntry}
use Rattle.named_tables.specs.declared.faults.RecoverFault.{RecoverFault}
use Rattle.named_tables.specs.declared.faults.RecoverFault.TheVariants.{Range}
use Rattle.recover_solution.specs.Solutions.{PlainSolution, is_constrained}

-- ---- names
-- each constrained a priori row has an estimate, or the first that has none
abbrev pub estimated : PlainSolution → Result (Unit {0}) RecoverFault
estimated solution = matched_in (find (λ row. is_constrained solution.constraint solution.apriori row && lacks_row solution.estimates row) solution.apriori)

-- the names of the estimates
abbrev pub AreEstimated : PlainSolution → Result (List PlainId) RecoverFault → Type 0
AreEstimated solution (Ok names) = AreNamesOf solution.estimates names
AreEstimated solution (Err fault) = ⊥

-- the names of a solution's parameters, or the first cause for which it has none: an estimate has no a priori value, a constrained a
-- priori row has no estimate, there is no estimate
abbrev pub AreParameters : PlainSolution → Result (List PlainId) RecoverFault → Type 0
AreParameters solution =
    Then (λ r. r ≡ matched solution.apriori solution.estimates) (λ all_matched.
    Then (λ r. r ≡ estimated solution) (λ all_estimated.
    Then (λ r. r ≡ filled solution.estimates) (λ some.
    AreEstimated solution)))

-- ---- standard deviations
-- each name that has a positive one is among these
abbrev pub AreDeviationsNamed : List Row → List PlainId → Type 0
AreDeviationsNamed apriori names = (id : PlainId) (s : Decimal) → sigma_of apriori id ≡ Some s → Contains names id

-- the interval of the weight over the square of a standard deviation, times 10^k; zero where there is none
abbrev pub IsSigmaInterval : Decimal → Option Decimal → ℤ → Interval → Type 0
IsSigmaInterval weight None k w = w ≡ zero_interval
IsSigmaInterval weight (Some s) k w = (v : Interval) × IsOverSquare (pos 1) s k v × (w ≡ weighted_interval weight v)

-- it fits
abbrev pub SigmaFits : Decimal → Option Decimal → ℤ → Type 0
SigmaFits weight None k = Unit {0}
SigmaFits weight (Some s) k = (v : Interval) × IsOverSquare (pos 1) s k v × WeightFits weight v

abbrev pub EntrySigmaFits : List Row → Decimal → ScaleMap → List PlainId → ℕ → ℕ → Type 0
EntrySigmaFits apriori weight scales names i j = SigmaFits weight (sigma_at apriori (name_at names i) (name_at names j)) (entry_power scales (name_at names i) (name_at names j))

-- the table of the standard deviations for these names
pub record IsSigmaTableOf (apriori : List Row) (weight : Decimal) (scales : ScaleMap) (names : List PlainId) (table : SymTable) : Type 0 where
  pub size : table.size ≡ length names
  pub lower : length table.entries ≡ before table.size
  pub entries : (i j : ℕ) (one other : PlainId) → slice_get names i ≡ Some one → slice_get names j ≡ Some other → IsSigmaInterval weight (sigma_at apriori one other) (entry_power scales one other) (entry_at table i j)

-- the table where all intervals fit, or else the names of the first that does not
abbrev pub IsSigmaTable : List Row → Decimal → ScaleMap → List PlainId → Result SymTable RecoverFault → Type 0
IsSigmaTable apriori weight scales names (Ok table) = IsSigmaTableOf apriori weight scales names table × HoldsLower (length names) (EntrySigmaFits apriori weight scales names)
IsSigmaTable apriori weight scales names (Err (Range row col)) = IsUnfitEntry names (EntrySigmaFits apriori weight scales names) row col
IsSigmaTable apriori weight scales names (Err other) = ⊥

-- ---- tables
-- no interval of a table passes 10^34 in size
abbrev pub IsModestTable : SymTable → Type 0
IsModestTable table = (i j : ℕ) → i < table.size → j < table.size → size (entry_at table i j) ≤ 10 ^ 34

-- ---- the right side
-- the normal equations of this table at the estimates, where the right side is zero
abbrev pub at_estimates : PlainSolution → ScaleMap → List PlainId → SymTable → PlainNeq
at_estimates solution scales names table = record {
  names = names;
  table = table;
  right = replicate (length names) zero_interval;
  apriori = map (value_of solution.estimates) names;
  units = map (unit_of solution.apriori) names;
  scales = map (scale_of scales) names;
}

-- a place in them is refused under its names
abbrev pub range_at : List PlainId → Place → RecoverFault
range_at names place = Range (name_at names place.row) (name_at names place.col)

-- these normal equations at the a priori values
abbrev pub IsMoved : PlainSolution → ScaleMap → List PlainId → SymTable → Result PlainNeq RecoverFault → Type 0
IsMoved solution scales names table =
    Renamed (range_at names) (IsShift (map (value_of solution.apriori) names) (at_estimates solution scales names table))

-- ---- without the constraints
-- the table is less by that of the constraints, and all else is as before
pub record IsWithout (removed : SymTable) (neq after : PlainNeq) : Type 0 where
  pub names : after.names ≡ neq.names
  pub right : after.right ≡ neq.right
  pub apriori : after.apriori ≡ neq.apriori
  pub units : after.units ≡ neq.units
  pub scales : after.scales ≡ neq.scales
  pub rows : after.table.size ≡ neq.table.size
  pub lower : length after.table.entries ≡ before after.table.size
  pub entries : (i j : ℕ) → i < neq.table.size → j < neq.table.size → entry_at after.table i j ≡ interval_sub (entry_at neq.table i j) (entry_at removed i j)

abbrev pub AreWithout : SymTable → PlainNeq → Result PlainNeq RecoverFault → Type 0
AreWithout removed neq (Ok after) = IsWithout removed neq after
AreWithout removed neq (Err fault) = ⊥

-- The normal equations of these names with this table, brought to the a priori values and less the table of the constraints, or the names
-- of the first interval of the right side that does not fit.
abbrev pub IsFreed : PlainSolution → ScaleMap → List PlainId → SymTable → SymTable → Result PlainNeq RecoverFault → Type 0
IsFreed solution scales names table removed = Then (IsMoved solution scales names table) (AreWithout removed)

-- ---- what is promised of them
-- each step has one result at most, and a cause or a result but never both
abbrev pub OneParameters : Type 0
OneParameters = (solution : PlainSolution) → IsOne (AreParameters solution)

abbrev pub OneSigmaTable : Type 0
OneSigmaTable = (apriori : List Row) (weight : Decimal) (scales : ScaleMap) (names : List PlainId) → IsOne (IsSigmaTable apriori weight scales names)

abbrev pub OneFreed : Type 0
OneFreed = (solution : PlainSolution) (scales : ScaleMap) (names : List PlainId) (table removed : SymTable) → IsOne (IsFreed solution scales names table removed)
