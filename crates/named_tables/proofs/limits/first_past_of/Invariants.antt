use Rattle.std.proofs.Common.{slice_index_or}
use Rattle.stated_order.specs.First.{HoldsBelow}
use Rattle.sym_blocks.specs.Tables.{zero_interval}
use Rattle.named_tables.specs.Parts.{IsModest}
use Rattle.named_tables.proofs.limits.first_past_of.Given as goal

abbrev pub invariant-loop-place : goal.invariant-loop-place
invariant-loop-place l = HoldsBelow l.place (λ i. IsModest (slice_index_or l.intervals i zero_interval))
