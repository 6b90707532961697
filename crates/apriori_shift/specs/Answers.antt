-- What the calls hold and answer.
use Rattle.std.specs.Prelude.{◌≡◌, List}
use Rattle.std.specs.BTreeMap.{BTreeMap, get}
use Rattle.std.specs.Net.Reader.{map_or}
use Rattle.decimal_e.specs.Decimals.{Decimal}
use Rattle.param_ids.specs.Plain.{PlainId}
use Rattle.param_ids.specs.Order.{id_cmp}
use Rattle.snx_rows.specs.declared.rows.Row.{Row}
use Rattle.snx_rows.specs.Named.{row_of, zero_decimal}
use Rattle.difference_products.specs.Products.{Place}
use Rattle.apriori_shift.specs.declared.commons.CommonError.{CommonError}
use Rattle.apriori_shift.specs.declared.commons.CommonError.TheVariants as clashes
use Rattle.apriori_shift.specs.declared.shifting.ShiftError.{ShiftError}
use Rattle.apriori_shift.specs.declared.shifting.ShiftError.TheVariants as shifts

-- a row for each of some names
abbrev pub RowMap : Type 0
RowMap = BTreeMap PlainId Row

-- the map has of each name the row that comes first
abbrev pub HasFirstRows : RowMap → List Row → Type 0
HasFirstRows table rows = (id : PlainId) → get id_cmp table id ≡ row_of rows id

-- the common value of a name
abbrev pub common_value : RowMap → PlainId → Decimal
common_value table id = map_or (get id_cmp table id) zero_decimal (λ row. row.value)

-- what a refusal says: P of what it names, and nothing where memory is wanting
abbrev pub IfClash : (PlainId → Type 0) → CommonError → Type 0
IfClash P (clashes.UnitClash id) = P id
IfClash P clashes.Memory = Unit {0}

abbrev pub IfRange : (Place → Type 0) → ShiftError → Type 0
IfRange P (shifts.Range row col) = P (record { row = row; col = col })
IfRange P shifts.Memory = Unit {0}
