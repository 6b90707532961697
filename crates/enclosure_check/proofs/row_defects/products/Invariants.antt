use Rattle.std.proofs.Common.{◌≡◌}
use Rattle.whole_numbers.specs.Lists.{at}
use Rattle.enclosure_check.specs.Defects.{products_to}
use Rattle.enclosure_check.specs.Rows.{entry_between}
use Rattle.enclosure_check.proofs.row_defects.products.Given as goal

abbrev pub invariant-loop-k : goal.invariant-loop-k
invariant-loop-k l = l.sum ≡ products_to l.k (at l.r) (entry_between l.low l.high)
