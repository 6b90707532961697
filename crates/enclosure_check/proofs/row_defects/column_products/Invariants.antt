use Rattle.std.proofs.Common.{◌≡◌}
use Rattle.sym_blocks.specs.Tables.{entry_at}
use Rattle.whole_numbers.specs.Lists.{at}
use Rattle.enclosure_check.specs.Defects.{products_to}
use Rattle.enclosure_check.proofs.row_defects.column_products.Given as goal

abbrev pub invariant-loop-k : goal.invariant-loop-k
invariant-loop-k g l = l.sum ≡ products_to l.k (at l.r) (λ k. entry_at l.a k l.j)
