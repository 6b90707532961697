-- The names of the rows of a block, and the first cause for which they do not stand as they must.
use Rattle.std.specs.Prelude.{◌==◌, Bool, not, if◌then◌else◌, List, length, map, Option, Some, None, Result, Ok, Err}
use Rattle.std.specs.List.{find, list_any}
use Rattle.std.specs.List.Sorted.{IsPermutation}
use Rattle.param_ids.specs.Plain.{PlainId}
use Rattle.param_ids.specs.Order.{IsNames}
use Rattle.snx_rows.specs.Named.{is_row_of}
use Rattle.snx_rows.specs.declared.rows.Row.{Row}
use Rattle.named_tables.specs.declared.faults.RecoverFault.{RecoverFault}
use Rattle.named_tables.specs.declared.faults.RecoverFault.TheVariants.{Unmatched, Empty}

-- some rows have none of this row's name
abbrev pub lacks_row : List Row → Row → Bool
lacks_row others row = not (list_any (is_row_of row.id) others)

-- no row, or the name of this one, for which there is none
abbrev pub matched_in : Option Row → Result (Unit {0}) RecoverFault
matched_in None = Ok tt
matched_in (Some row) = Err (Unmatched row.id)

-- each of the rows has an a priori row of its name, or the first that has none
abbrev pub matched : List Row → List Row → Result (Unit {0}) RecoverFault
matched apriori rows = matched_in (find (lacks_row apriori) rows)

-- there is a row
abbrev pub filled : List Row → Result (Unit {0}) RecoverFault
filled rows = if length rows == 0 then Err Empty else Ok tt

-- the names of the rows, in order
abbrev pub AreNamesOf : List Row → List PlainId → Type 0
AreNamesOf rows names = IsPermutation (map (λ (row : Row). row.id) rows) names × IsNames names
