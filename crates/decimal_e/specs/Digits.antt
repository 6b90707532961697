-- Strings of decimal digits, as they stand in a text.
use Rattle.std.specs.Prelude.{◌≢◌, ℕ, ◌+◌, ◌-◌, ◌*◌, ◌^◌, ◌≤◌, ◌<◌, List, [], ◌∷◌, length, slice_index}

-- the number that the digits write
abbrev pub number : List ℕ → ℕ
number [] = 0
number (digit ∷ digits) = (digit - 48) * 10 ^ length digits + number digits

-- There are more than 18 digits from the first that isn't 0 to the last that isn't: two that aren't 0 stand at least 18 places apart.
abbrev pub IsTooLong : List ℕ → Type 0
IsTooLong digits = (i : ℕ) × (j : ℕ) × ((i + 18 ≤ j) × (j < length digits) × (slice_index digits i ≢ 48) × (slice_index digits j ≢ 48))
