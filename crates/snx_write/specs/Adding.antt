-- For private functions alone: what they add to a text.
use Rattle.std.specs.Prelude.{◌≡◌, ◌++◌, ℕ, List}
use Rattle.snx_write.specs.Combined.{text_of}

-- a text has these lines more
abbrev pub Adds : List (List ℕ) → List ℕ → List ℕ → Type 0
Adds lines old new = new ≡ old ++ text_of lines
