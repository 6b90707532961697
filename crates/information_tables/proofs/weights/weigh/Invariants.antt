use Rattle.std.proofs.Common.{◌≡◌, ◌≤◌, ◌<◌, ℕ, length}
use Rattle.stated_order.specs.First.{HoldsLower}
use Rattle.sym_blocks.specs.Tables.{before, entry_at}
use Rattle.named_tables.specs.Weighted.{WeightFits, weighted_interval}
use Rattle.information_tables.proofs.weights.weigh.Given as goal

abbrev pub invariant-loop-row : goal.invariant-loop-row
invariant-loop-row g l = record {
  size : l.table.size ≡ l.fn.table.size;
  whole : length l.table.entries ≡ before l.table.size;
  fits : HoldsLower l.row (λ i j. WeightFits l.weight (entry_at l.fn.table i j));
  done : (i j : ℕ) → i < l.row → j ≤ i → entry_at l.table i j ≡ weighted_interval l.weight (entry_at l.fn.table i j);
  left : (i j : ℕ) → l.row ≤ i → i < l.fn.table.size → j ≤ i → entry_at l.table i j ≡ entry_at l.fn.table i j;
}
