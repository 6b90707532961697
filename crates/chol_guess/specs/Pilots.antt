-- The pilot of a table, and where a table has none. How near to an inverse it comes is decided by the certificate, so no
-- law rests on its numbers. The method has an approximate inverse in this place; how it is made, its scales and its bounds
-- are this program's own.
use Rattle.std.specs.Prelude.{◌≡◌, ◌<◌, ℕ, suc, ℤ, pos, ◌+ℤ◌}
use Rattle.whole_numbers.specs.Quotients.{floor_over}
use Rattle.enclosures.specs.Pilots.{IsPilotScale, PilotTable, pilot_entry}
use Rattle.chol_factor.specs.Factor.{HasColumns}
use Rattle.chol_guess.specs.Columns.{IsInverseColumn, StayInBounds}

-- x / 1024, to nearest
abbrev pub nearest : ℤ → ℤ
nearest x = floor_over (x +ℤ pos 512) 1024

-- p is the pilot of m with n rows: its columns at the greatest scale at which all of them stay in bounds
pub record IsPilot (n : ℕ) (m : ℕ → ℕ → ℤ) (p : PilotTable) : Type 0 where
  pub size : p.size ≡ n
  pub scale : IsPilotScale p.g
  pub f : ℕ → ℕ → ℤ
  pub factor : HasColumns n m f n
  pub columns : (c : ℕ) → c < n → (x : ℕ → ℤ) × (IsInverseColumn n f p.g c x × ((i : ℕ) → i < n → pilot_entry p i c ≡ nearest (x i)))
  pub greatest : (g : ℕ) → IsPilotScale g → p.g < g → ¬ (StayInBounds n f g n)

-- m has a factor, at no scale do all columns stay in bounds, and column c is the first that fails at the scale 0
pub record IsCondition (n : ℕ) (m : ℕ → ℕ → ℤ) (c : ℕ) : Type 0 where
  pub within : c < n
  pub f : ℕ → ℕ → ℤ
  pub factor : HasColumns n m f n
  pub greater : (g : ℕ) → IsPilotScale g → 0 < g → ¬ (StayInBounds n f g n)
  pub before : StayInBounds n f 0 c
  pub here : ¬ (StayInBounds n f 0 (suc c))
