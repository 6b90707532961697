-- Standard deviations by name.
use Rattle.std.specs.Prelude.{pos, int_lt, if◌then◌else◌, List, Option, None, Some}
use Rattle.std.specs.Option.{option_and_then}
use Rattle.decimal_e.specs.Decimals.{Decimal}
use Rattle.param_ids.specs.Plain.{PlainId}
use Rattle.param_ids.specs.Order.{is_same_id}
use Rattle.snx_rows.specs.Named.{row_of}
use Rattle.snx_rows.specs.declared.rows.Row.{Row}

-- one that is positive
abbrev pub positive : Decimal → Option Decimal
positive dev = if int_lt (pos 0) dev.mant then Some dev else None

-- that of a row, and that of the row of a name
abbrev pub sigma_in : Row → Option Decimal
sigma_in row = option_and_then positive row.dev

abbrev pub sigma_of : List Row → PlainId → Option Decimal
sigma_of rows id = option_and_then sigma_in (row_of rows id)

-- that of two names, which only a name and itself have
abbrev pub sigma_at : List Row → PlainId → PlainId → Option Decimal
sigma_at rows one other = if is_same_id one other then sigma_of rows one else None
