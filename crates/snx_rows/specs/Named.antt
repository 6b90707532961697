-- Rows by the names of their parameters.
use Rattle.std.specs.Prelude.{ℕ, pos, Bool, List, Option, codes}
use Rattle.std.specs.List.{find, position_or_len}
use Rattle.std.specs.Net.Reader.{map_or}
use Rattle.decimal_e.specs.Decimals.{Decimal}
use Rattle.param_ids.specs.Plain.{PlainId}
use Rattle.param_ids.specs.Order.{is_same_id}
use Rattle.snx_rows.specs.declared.rows.Row.{Row}

abbrev pub zero_decimal : Decimal
zero_decimal = record { mant = pos 0; exp = pos 0 }

-- the row of a name
abbrev pub is_row_of : PlainId → Row → Bool
is_row_of id row = is_same_id row.id id

abbrev pub row_of : List Row → PlainId → Option Row
row_of rows id = find (is_row_of id) rows

-- its place among the rows, counted from 0; past the last where there is none
abbrev pub place_of : List Row → PlainId → ℕ
place_of rows id = position_or_len (is_row_of id) rows

-- its value and its unit
abbrev pub value_of : List Row → PlainId → Decimal
value_of rows id = map_or (row_of rows id) zero_decimal (λ row. row.value)

abbrev pub unit_of : List Row → PlainId → List ℕ
unit_of rows id = map_or (row_of rows id) (codes "    ") (λ row. row.unit)
