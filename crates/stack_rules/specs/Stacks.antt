-- Stacks of normal equations.
use Rattle.std.specs.Prelude.{ℕ, ℤ, List}
use Rattle.whole_numbers.specs.Intervals.{Interval}
use Rattle.whole_numbers.specs.Lists.{at}
use Rattle.decimal_e.specs.Decimals.{Decimal}
use Rattle.sym_blocks.specs.Tables.{SymTable}
use Rattle.sys_model.specs.Systems.{Table}
use Rattle.equil.specs.Tables.{table_of}
use Rattle.bounds_report.specs.Printing.{decimal_at}

-- The normal equations of some names: the intervals of their matrix and right side, and of each name its a priori value and
-- its scale exponent. The interval of the matrix at (i, j) stands for its element times 10^(18 - t_i - t_j), that of the
-- right side at i for its element times 10^(18 - t_i), where t are the scale exponents.
pub record Stack : Type 0 where
  pub rows : ℕ
  pub table : Table
  pub apriori : ℕ → Decimal
  pub scales : ℕ → ℤ

-- the stack that stands in memory
abbrev pub stack_of : SymTable → List Interval → List Decimal → List ℤ → Stack
stack_of table right apriori scales = record { rows = table.size; table = table_of table right; apriori = decimal_at apriori; scales = at scales }
