use Rattle.std.proofs.Common.{◌≡◌}
use Rattle.whole_numbers.specs.Sum.{total_to}
use Rattle.whole_numbers.specs.Lists.{at}
use Rattle.sym_blocks.specs.Tables.{entry_at}
use Rattle.enclosure_check.specs.Defects.{products_to, clipped_left}
use Rattle.enclosure_check.proofs.row_defects.row_parts.Given as goal

abbrev pub invariant-loop-j : goal.invariant-loop-j
invariant-loop-j g l = l.total ≡ total_to l.j (λ j. clipped_left l.g l.i j (products_to l.rows.table.now.size (at l.r) (λ k. entry_at l.rows.table.now j k)))
