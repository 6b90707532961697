-- Common a priori values: one value and one unit for each name, from the rows of SOLUTION/APRIORI of some files (SINEX 2.02 format
-- description).
--
-- The rows stand file after file, those of the file that counts most first, so that the first row of a name is the one that counts.
use Rattle.std.specs.Prelude.{◌≡◌, ◌≢◌, List, Result, Ok, Err, Contains}
use Rattle.std.specs.declared.cmp.Ordering.TheVariants.{Less}
use Rattle.stated_order.specs.Steps.{IsOne}
use Rattle.param_ids.specs.Plain.{PlainId}
use Rattle.param_ids.specs.Order.{id_cmp}
use Rattle.snx_rows.specs.declared.rows.Row.{Row}

-- two rows of a name have different units
pub record HasTwoUnits (rows : List Row) (id : PlainId) : Type 0 where
  pub one : Row
  pub other : Row
  pub here : Contains rows one
  pub there : Contains rows other
  pub named : one.id ≡ id
  pub likewise : other.id ≡ id
  pub apart : one.unit ≢ other.unit

-- the least of the names that have two units
pub record IsLeastClash (rows : List Row) (id : PlainId) : Type 0 where
  pub clash : HasTwoUnits rows id
  pub least : (other : PlainId) → id_cmp other id ≡ Less → ¬ (HasTwoUnits rows other)

-- the rows themselves, by which a name has the value of the first row of its name (`value_of` of snx_rows), or else the least name
-- with two units
abbrev pub IsCommon : List Row → Result (List Row) PlainId → Type 0
IsCommon rows (Ok base) = (base ≡ rows) × ((id : PlainId) → ¬ (HasTwoUnits rows id))
IsCommon rows (Err id) = IsLeastClash rows id

abbrev pub OneCommon : Type 0
OneCommon = (rows : List Row) → IsOne (IsCommon rows)
