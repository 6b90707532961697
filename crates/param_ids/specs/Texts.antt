-- The texts of which a parameter's name is made, normalised.
use Rattle.std.specs.Prelude.{ℕ, Bool, ◌&&◌, ◌==◌, nat_le, nat_lt, if◌then◌else◌, List, [], ◌∷◌, length, Option, Some, None}
use Rattle.std.specs.List.{list_all, slice_index_or}
use Rattle.std.specs.Char.{is_ascii_digit}

-- the byte of a text at an index, or a blank past its end
abbrev pub at_or_blank : List ℕ → ℕ → ℕ
at_or_blank text i = slice_index_or text i 32

-- a text in two, four or six bytes, with blanks behind it
abbrev pub in_2 : List ℕ → List ℕ
in_2 text = at_or_blank text 0 ∷ at_or_blank text 1 ∷ []

abbrev pub in_4 : List ℕ → List ℕ
in_4 text = at_or_blank text 0 ∷ at_or_blank text 1 ∷ at_or_blank text 2 ∷ at_or_blank text 3 ∷ []

abbrev pub in_6 : List ℕ → List ℕ
in_6 text = at_or_blank text 0 ∷ at_or_blank text 1 ∷ at_or_blank text 2 ∷ at_or_blank text 3 ∷ at_or_blank text 4 ∷ at_or_blank text 5 ∷ []

-- a byte that a name may have
abbrev pub is_plain_byte : ℕ → Bool
is_plain_byte b = nat_le 32 b && nat_le b 126

abbrev pub is_plain : List ℕ → Bool
is_plain text = list_all is_plain_byte text

-- a text without its leading zeros; its last byte stays
abbrev pub without_zeros : List ℕ → List ℕ
without_zeros [] = []
without_zeros (b ∷ []) = b ∷ []
without_zeros (b ∷ c ∷ rest) = if b == 48 then without_zeros (c ∷ rest) else b ∷ c ∷ rest

-- a solution of digits alone has no leading zeros
abbrev pub plain_soln : List ℕ → List ℕ
plain_soln text = if list_all is_ascii_digit text then without_zeros text else text

-- a text of at most n bytes, each of which a name may have
abbrev pub fits : ℕ → List ℕ → Bool
fits n text = nat_le (length text) n && is_plain text

-- what a text without blanks at its ends is in a name: its type, which is not empty, its code, point and solution, and a unit.
-- None where it is longer than its field or has a byte that a name may not have
abbrev pub kind_text : List ℕ → Option (List ℕ)
kind_text text = if nat_lt 0 (length text) && fits 6 text then Some (in_6 text) else None

abbrev pub code_text : List ℕ → Option (List ℕ)
code_text text = if fits 4 text then Some (in_4 text) else None

abbrev pub point_text : List ℕ → Option (List ℕ)
point_text text = if fits 2 text then Some (in_2 text) else None

abbrev pub soln_text : List ℕ → Option (List ℕ)
soln_text text = if fits 4 text then Some (in_4 (plain_soln text)) else None

abbrev pub unit_text : List ℕ → Option (List ℕ)
unit_text text = if fits 4 text then Some (in_4 text) else None
