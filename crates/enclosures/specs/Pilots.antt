-- The pilot of a table: an approximate inverse R, as whole numbers in units of 2^-(g + 60). No law rests on how near it
-- comes.
use Rattle.std.specs.Prelude.{◌≡◌, ◌≤◌, ◌*◌, ◌^◌, ◌%◌, ℕ, ℤ, List, length}
use Rattle.whole_numbers.specs.Lists.{grid, AllAtMost}

-- 0, 10, 20, 30, 40 or 50
pub record IsPilotScale (g : ℕ) : Type 0 where
  pub most : g ≤ 50
  pub tens : g % 10 ≡ 0

-- a square table of numbers, row by row, with its scale
pub record PilotTable : Type 0 where
  pub g : ℕ
  pub size : ℕ
  pub entries : List ℤ

-- the number of row i and column k
abbrev pub pilot_entry : PilotTable → ℕ → ℕ → ℤ
pilot_entry p i k = grid p.size p.entries i k

-- what each pilot keeps
pub record IsPilotTable (p : PilotTable) : Type 0 where
  pub scale : IsPilotScale p.g
  pub square : length p.entries ≡ p.size * p.size
  pub small : AllAtMost (2 ^ 50) p.entries
