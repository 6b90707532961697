-- The information matrix of a matrix of a text in intervals by name, or the first cause for which there is none.
use Rattle.std.specs.Prelude.{◌≡◌, ◌<◌, ℕ, pos, List, length, Result, Ok, Err}
use Rattle.stated_order.specs.First.{HoldsLower}
use Rattle.stated_order.specs.Steps.{IsOne, Then, Renamed}
use Rattle.decimal_e.specs.Decimals.{Decimal}
use Rattle.sym_blocks.specs.Tables.{SymTable, entry_at, before}
use Rattle.param_ids.specs.Plain.{PlainId}
use Rattle.param_ids.specs.Tables.{ScaleMap}
use Rattle.snx_rows.specs.declared.rows.Row.{Row}
use Rattle.snx_matrices.specs.declared.elements.Cell.{Cell}
use Rattle.snx_matrices.specs.declared.elements.Content.{Content}
use Rattle.snx_matrices.specs.declared.elements.Content.TheVariants.{Cova, Corr, Info}
use Rattle.neq_stack.specs.Systems.{name_at}
use Rattle.named_tables.specs.Tables.{IsUnfitEntry, IsTable, IsTableBy}
use Rattle.named_tables.specs.Weighted.{one_decimal, weighted_interval, WeightFits}
use Rattle.named_tables.specs.declared.faults.RecoverFault.{RecoverFault}
use Rattle.named_tables.specs.declared.faults.RecoverFault.TheVariants.{Empty, Range, Pivot, Condition, Residual, Defect}
use Rattle.correlations.specs.Correlations.{AreCovariances}
use Rattle.inv_enclose.specs.Columns.{IsInverted}
use Rattle.inv_enclose.specs.declared.InvError.{InvError}
use Rattle.inv_enclose.specs.declared.InvError.TheVariants as inverses

-- ---- covariances
-- those of the elements themselves, or of correlations; times 10^(24 + t_i + t_j), where t are the scale exponents of the names
abbrev pub AreCovarianceIntervals : Content → List Row → List Cell → ScaleMap → List PlainId → Result SymTable RecoverFault → Type 0
AreCovarianceIntervals Info rows cells scales names result = ⊥
AreCovarianceIntervals Cova rows cells scales names result = IsTableBy Cova rows cells one_decimal scales names result
AreCovarianceIntervals Corr rows cells scales names result = AreCovariances rows cells scales names result

-- ---- the inverse
-- a place in it is refused under its names. (Want of memory is no cause of a step.)
abbrev pub by_name : List PlainId → InvError → RecoverFault
by_name names (inverses.Range row col) = Range (name_at names row) (name_at names col)
by_name names (inverses.Pivot row) = Pivot (name_at names row)
by_name names (inverses.Condition col) = Condition (name_at names col)
by_name names (inverses.Residual row size) = Residual (name_at names row) size
by_name names (inverses.Defect row parts) = Defect (name_at names row) parts
by_name names inverses.Memory = Empty

-- ---- the weight
-- each interval times the weight
pub record IsWeightedTable (weight : Decimal) (table out : SymTable) : Type 0 where
  pub size : out.size ≡ table.size
  pub lower : length out.entries ≡ before out.size
  pub entries : (i j : ℕ) → i < table.size → j < table.size → entry_at out i j ≡ weighted_interval weight (entry_at table i j)

-- the table of these where all fit, or else the names of the first that does not
abbrev pub AreWeighted : Decimal → List PlainId → SymTable → Result SymTable RecoverFault → Type 0
AreWeighted weight names table (Ok out) = IsWeightedTable weight table out × HoldsLower (length names) (λ i j. WeightFits weight (entry_at table i j))
AreWeighted weight names table (Err (Range row col)) = IsUnfitEntry names (λ i j. WeightFits weight (entry_at table i j)) row col
AreWeighted weight names table (Err other) = ⊥

-- ---- all together
-- The inverse of covariances, which are taken times 10^24, and then its intervals times the weight.
abbrev pub IsInverseTable : Content → List Row → List Cell → Decimal → ScaleMap → List PlainId → Result SymTable RecoverFault → Type 0
IsInverseTable content rows cells weight scales names =
    Then (AreCovarianceIntervals content rows cells scales names) (λ table.
    Then (Renamed (by_name names) (IsInverted table (pos 24))) (AreWeighted weight names))

-- the information matrix for these names in intervals, times the weight and 10^(18 - t_i - t_j), or the first cause for which there is none
abbrev pub IsInformationTable : Content → List Row → List Cell → Decimal → ScaleMap → List PlainId → Result SymTable RecoverFault → Type 0
IsInformationTable Info rows cells weight scales names = IsTable rows cells weight scales names
IsInformationTable Cova rows cells weight scales names = IsInverseTable Cova rows cells weight scales names
IsInformationTable Corr rows cells weight scales names = IsInverseTable Corr rows cells weight scales names

-- there is one table, or one first cause, and never both
abbrev pub OneInformation : Type 0
OneInformation = (content : Content) (rows : List Row) (cells : List Cell) (weight : Decimal) (scales : ScaleMap) (names : List PlainId) → IsOne (IsInformationTable content rows cells weight scales names)
