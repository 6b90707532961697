use Rattle.stated_order.specs.First.{HoldsLower}
use Rattle.sym_blocks.specs.Tables.{entry_at}
use Rattle.inv_enclose.specs.Parts.{IsModest}
use Rattle.inv_enclose.proofs.limits.first_past.Given as goal

abbrev pub invariant-loop-row : goal.invariant-loop-row
invariant-loop-row g l = HoldsLower l.row (λ i j. IsModest (entry_at l.table i j))
