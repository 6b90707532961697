-- Blanks in texts, and numbers at the right of their columns.
use Rattle.std.specs.Prelude.{ℕ, ◌-◌, ◌++◌, Bool, ◌||◌, ◌==◌, List, take, drop, length, replicate}
use Rattle.std.specs.List.{list_all, prefix_len, suffix_len}
use Rattle.std.specs.Fmt.{decimal}

-- a space or a tab
abbrev pub is_blank : ℕ → Bool
is_blank b = (b == 32) || (b == 9)

-- a text of blanks alone; an empty one is
abbrev pub is_blank_text : List ℕ → Bool
is_blank_text text = list_all is_blank text

-- a text without the blanks at its front
abbrev pub front_trimmed : List ℕ → List ℕ
front_trimmed text = drop (prefix_len is_blank text) text

-- a text without the blanks at its end
abbrev pub end_trimmed : List ℕ → List ℕ
end_trimmed text = take (length text - suffix_len is_blank text) text

-- a text without the blanks at both ends
abbrev pub trimmed : List ℕ → List ℕ
trimmed text = end_trimmed (front_trimmed text)

-- a text at the right of so many columns, with spaces before it
abbrev pub right_aligned : ℕ → List ℕ → List ℕ
right_aligned width text = replicate (width - length text) 32 ++ text

-- a number in decimal digits, so
abbrev pub right_justified : ℕ → ℕ → List ℕ
right_justified n width = right_aligned width (decimal n)
