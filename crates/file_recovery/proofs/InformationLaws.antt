-- What information matrices and their tables keep.
use Rattle.std.proofs.Common.{◌≡◌, ◌<◌, ◌∙◌, ℕ, List, Ok, length}
use Rattle.stated_order.specs.Steps.{Then, Renamed}
use Rattle.stated_order.proofs.StepLaws.{went_on}
use Rattle.decimal_e.specs.Decimals.{Decimal}
use Rattle.sym_blocks.specs.Tables.{SymTable, before}
use Rattle.param_ids.specs.Plain.{PlainId}
use Rattle.param_ids.specs.Tables.{ScaleMap}
use Rattle.snx_rows.specs.declared.rows.Row.{Row}
use Rattle.snx_matrices.specs.declared.elements.Cell.{Cell}
use Rattle.snx_matrices.specs.declared.elements.Content.{Content}
use Rattle.snx_matrices.specs.declared.elements.Content.TheVariants.{Cova, Corr, Info}
use Rattle.neq_stack.specs.Systems.{NamedSystem}
use Rattle.inv_enclose.specs.Columns.{IsInverted}
use Rattle.information_tables.specs.Exact.{IsInformation}
use Rattle.information_tables.specs.Tables.{AreCovarianceIntervals, IsInverseTable, IsInformationTable}
use Rattle.recover_solution.specs.Exact.{HasNoRight}

-- ---- systems
pub information_some : (content : Content) (rows : List Row) (cells : List Cell) (names : List PlainId) (weight : Decimal) (E : NamedSystem) → IsInformation content rows cells names weight E → 0 < E.q
information_some Info rows cells names weight E is = is.some
information_some Cova rows cells names weight E is = is.over_them.some
information_some Corr rows cells names weight E is = is.over_them.some

pub information_right : (content : Content) (rows : List Row) (cells : List Cell) (names : List PlainId) (weight : Decimal) (E : NamedSystem) → IsInformation content rows cells names weight E → HasNoRight E
information_right Info rows cells names weight E is = is.right
information_right Cova rows cells names weight E is = is.over_them.right
information_right Corr rows cells names weight E is = is.over_them.right

-- ---- tables
-- as many rows as names, and the intervals of their lower triangle
pub record HasRows (names : List PlainId) (table : SymTable) : Type 0 where
  pub size : table.size ≡ length names
  pub lower : length table.entries ≡ before table.size

covariances_size : (content : Content) (rows : List Row) (cells : List Cell) (scales : ScaleMap) (names : List PlainId) (table : SymTable) → AreCovarianceIntervals content rows cells scales names (Ok table) → table.size ≡ length names
covariances_size Info rows cells scales names table is = absurd is
covariances_size Cova rows cells scales names table is = is.0.size
covariances_size Corr rows cells scales names table is = is.0.size

inverse_rows : (content : Content) (rows : List Row) (cells : List Cell) (weight : Decimal) (scales : ScaleMap) (names : List PlainId) (table : SymTable) → IsInverseTable content rows cells weight scales names (Ok table) → HasRows names table
inverse_rows content rows cells weight scales names table h =
    let covariances = went_on (AreCovarianceIntervals content rows cells scales names) _ table h in
    let inverse = went_on _ _ table covariances.onward in
    let working = went_on _ _ inverse.gives inverse.given in
    let pilot = went_on _ _ inverse.gives working.onward in
    let columns = went_on _ _ inverse.gives pilot.onward.2 in
    record {
      size = inverse.onward.0.size ∙ columns.onward.0.size ∙ covariances_size content rows cells scales names covariances.gives covariances.given;
      lower = inverse.onward.0.lower;
    }

pub information_rows : (content : Content) (rows : List Row) (cells : List Cell) (weight : Decimal) (scales : ScaleMap) (names : List PlainId) (table : SymTable) → IsInformationTable content rows cells weight scales names (Ok table) → HasRows names table
information_rows Info rows cells weight scales names table is = record { size = is.0.size; lower = is.0.lower }
information_rows Cova rows cells weight scales names table is = inverse_rows Cova rows cells weight scales names table is
information_rows Corr rows cells weight scales names table is = inverse_rows Corr rows cells weight scales names table is
