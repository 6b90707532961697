-- The exact product that the intervals of a product hold.
use Rattle.std.specs.Prelude.{◌<◌, ◌*◌, ℕ, pos, ◌-ℤ◌, List, slice_index_or, Ok}
use Rattle.whole_numbers.specs.Lists.{at}
use Rattle.whole_numbers.specs.Intervals.{Interval}
use Rattle.sym_blocks.specs.Tables.{entry_at, zero_interval}
use Rattle.sys_model.specs.Scaling.{HoldsTimes}
use Rattle.sys_model.specs.Systems.{System, Fractions, row_by}
use Rattle.difference_products.specs.Products.{Factors, difference_at, IsProduct}

-- The table holds each element (i, j) of the system's matrix times 10^(18 - t_i - t_j), t being the scale exponents, and the differences
-- hold the fractions times 10^20.
pub record HoldFactors (f : Factors) (S : System) (v : Fractions) : Type 0 where
  pub some : 0 < S.q
  pub plain_some : 0 < v.s
  pub entries : (i j : ℕ) → i < f.table.size → j < f.table.size → HoldsTimes (entry_at f.table i j) (S.a i j) S.q (pos 18 -ℤ at f.scales i -ℤ at f.scales j)
  pub differences : (j : ℕ) → j < f.table.size → HoldsTimes (difference_at f j) (v.x j) v.s (pos 20)

-- then the product of row i holds row i of the matrix times the fractions, times 10^(18 - t_i)
abbrev pub ProductHolds : Type 0
ProductHolds = (f : Factors) (S : System) (v : Fractions) (products : List Interval)
    → HoldFactors f S v → IsProduct f (Ok products) → (i : ℕ) → i < f.table.size
    → HoldsTimes (slice_index_or products i zero_interval) (row_by f.table.size S.a i v.x) (S.q * v.s) (pos 18 -ℤ at f.scales i)
