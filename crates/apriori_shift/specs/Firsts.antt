-- For private functions alone: the first row of each name so far, and the least name with two units.
use Rattle.std.specs.Prelude.{◌≡◌, List, Option, Some, None}
use Rattle.std.specs.declared.cmp.Ordering.TheVariants.{Less}
use Rattle.param_ids.specs.Plain.{PlainId}
use Rattle.param_ids.specs.Order.{id_cmp}
use Rattle.snx_rows.specs.declared.rows.Row.{Row}
use Rattle.apriori_shift.specs.Common.{HasTwoUnits, IsLeastClash}
use Rattle.apriori_shift.specs.Answers.{RowMap, HasFirstRows}

-- the lesser of a name and one that may be known
abbrev pub IsLesser : Option PlainId → PlainId → PlainId → Type 0
IsLesser None id least = least ≡ id
IsLesser (Some old) id least = (id_cmp id old ≡ Less → least ≡ id) × (¬ (id_cmp id old ≡ Less) → least ≡ old)

-- the least name with two units, or none where no name has two
abbrev pub IsClashOf : List Row → Option PlainId → Type 0
IsClashOf rows None = (id : PlainId) → ¬ (HasTwoUnits rows id)
IsClashOf rows (Some id) = IsLeastClash rows id

-- what is known of some rows
pub record Stands (base : RowMap) (clash : Option PlainId) (rows : List Row) : Type 0 where
  pub first : HasFirstRows base rows
  pub least : IsClashOf rows clash
