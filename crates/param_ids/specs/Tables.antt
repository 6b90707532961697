-- The powers of ten by which the numbers of a type of parameter are scaled.
use Rattle.std.specs.Prelude.{◌≤◌, List, ℕ, ℤ, pos, negsuc, ◌≤ℤ◌, unwrap_or, codes, IfSome}
use Rattle.std.specs.Ordering.{nat_cmp}
use Rattle.std.specs.Cmp.Lexicographic.{slice_cmp}
use Rattle.std.specs.FinMap as map

-- a map from types, by their bytes, to numbers
abbrev pub ScaleMap : Type 0
ScaleMap = map.FinMap (slice_cmp nat_cmp) ℤ

-- a number from -4 to 6
abbrev pub IsScale : ℤ → Type 0
IsScale t = (negsuc 3 ≤ℤ t) × (t ≤ℤ pos 6)

-- at most 64 types, each with a number from -4 to 6
pub record IsScaleMap (scales : ScaleMap) : Type 0 where
  pub few : map.len scales ≤ 64
  pub in_range : (kind : List ℕ) → IfSome (map.get scales kind) IsScale

-- the number of a type, or 0 where it has none
abbrev pub scale_in : ScaleMap → List ℕ → ℤ
scale_in scales kind = unwrap_or (map.get scales kind) (pos 0)

-- right ascension and declination of a source are scaled by 6, and nothing else
abbrev pub standard_scales : ScaleMap
standard_scales = map.insert (map.insert map.empty (codes "RS_RA ") (pos 6)) (codes "RS_DE ") (pos 6)
