-- Indices of rows (SINEX 2.02 format description).
use Rattle.std.specs.Prelude.{ℕ, Bool, ◌&&◌, nat_le, if◌then◌else◌, List, length, Option, Some, None}
use Rattle.std.specs.List.{list_all}
use Rattle.std.specs.Char.{is_ascii_digit}
use Rattle.snx_lines.specs.Lines.{columns}
use Rattle.decimal_e.specs.Digits.{number}

-- at most five digits and nothing else, for a number from 1 on
abbrev pub is_index : List ℕ → Bool
is_index text = nat_le (length text) 5 && list_all is_ascii_digit text && nat_le 1 (number text)

-- the index that a text without blanks at its ends writes
abbrev pub index_of : List ℕ → Option ℕ
index_of text = if is_index text then Some (number text) else None

-- the index on a line, in columns 2 to 6
abbrev pub index_on : List ℕ → Option ℕ
index_on text = index_of (columns text 2 6)
