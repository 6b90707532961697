-- The elements of a matrix by the names of its rows.
use Rattle.std.specs.Prelude.{ℕ, Bool, ◌||◌, ◌&&◌, ◌==◌, List}
use Rattle.std.specs.List.{find}
use Rattle.std.specs.Net.Reader.{map_or}
use Rattle.decimal_e.specs.Decimals.{Decimal}
use Rattle.param_ids.specs.Plain.{PlainId}
use Rattle.snx_rows.specs.Named.{zero_decimal, place_of}
use Rattle.snx_rows.specs.declared.rows.Row.{Row}
use Rattle.snx_matrices.specs.declared.elements.Cell.{Cell}

-- an element stands at two places, in either order
abbrev pub is_at : ℕ → ℕ → Cell → Bool
is_at i j cell = ((cell.row == i) && (cell.col == j)) || ((cell.row == j) && (cell.col == i))

-- the element that is given there; zero where none is
abbrev pub given_at : List Cell → ℕ → ℕ → Decimal
given_at cells i j = map_or (find (is_at i j) cells) zero_decimal (λ cell. cell.value)

-- the element for two names
abbrev pub element_of : List Row → List Cell → PlainId → PlainId → Decimal
element_of rows cells one other = given_at cells (place_of rows one) (place_of rows other)
