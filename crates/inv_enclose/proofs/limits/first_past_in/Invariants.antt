use Rattle.stated_order.specs.First.{HoldsBelow}
use Rattle.sym_blocks.specs.Tables.{entry_at}
use Rattle.inv_enclose.specs.Parts.{IsModest}
use Rattle.inv_enclose.proofs.limits.first_past_in.Given as goal

abbrev pub invariant-loop-col : goal.invariant-loop-col
invariant-loop-col g l = HoldsBelow l.col (λ j. IsModest (entry_at l.table l.row j))
