-- The radii of a certificate.
use Rattle.std.specs.Prelude.{ℕ, slice_index_or}
use Rattle.enclosures.specs.declared.Radius.{Radius}

-- how far a solution may be from the vector in row i
abbrev pub radius_at : Radius → ℕ → ℕ
radius_at v i = slice_index_or v.w.items i 0
