use Rattle.std.proofs.Common.{◌≡◌, ◌≤◌, ◌<◌, ℕ, length}
use Rattle.stated_order.specs.First.{HoldsBelow}
use Rattle.sym_blocks.specs.Tables.{before, entry_at}
use Rattle.named_tables.specs.Weighted.{WeightFits, weighted_interval}
use Rattle.information_tables.proofs.weights.weigh_row.Given as goal

abbrev pub invariant-loop-col : goal.invariant-loop-col
invariant-loop-col g l = record {
  size : l.table.size ≡ l.fn.table.size;
  whole : length l.table.entries ≡ before l.table.size;
  fits : HoldsBelow l.col (λ j. WeightFits l.weight (entry_at l.fn.table l.row j));
  done : (j : ℕ) → j < l.col → entry_at l.table l.row j ≡ weighted_interval l.weight (entry_at l.fn.table l.row j);
  left : (j : ℕ) → l.col ≤ j → j ≤ l.row → entry_at l.table l.row j ≡ entry_at l.fn.table l.row j;
  others : (i j : ℕ) → i < l.fn.table.size → j ≤ i → (i ≡ l.row → ⊥) → entry_at l.table i j ≡ entry_at l.fn.table i j;
}
