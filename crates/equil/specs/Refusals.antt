-- Where a working table is refused.
use Rattle.std.specs.Prelude.{ℕ, ⊤}
use Rattle.equil.specs.declared.EquilError.{EquilError}
use Rattle.equil.specs.declared.EquilError.TheVariants.{Range, Memory}

-- what a refusal says: P of the row and column that it names, and nothing where memory is wanting
abbrev pub IfRange : (ℕ → ℕ → Type 0) → EquilError → Type 0
IfRange P (Range row col) = P row col
IfRange P Memory = ⊤
