use Rattle.std.proofs.Common.{◌≡◌, ◌≢◌, ◌≤◌, ◌<◌, ℕ, length}
use Rattle.whole_numbers.specs.Intervals.{interval_add}
use Rattle.sym_blocks.specs.Tables.{before, entry_at}
use Rattle.neq_stack.specs.Joining.{entry_by}
use Rattle.neq_stack.proofs.adding.add_row.Given as goal

abbrev pub invariant-loop-col : goal.invariant-loop-col
invariant-loop-col g l = record {
  size : l.into.size ≡ l.fn.into.size;
  whole : length l.into.entries ≡ before l.into.size;
  done : (j : ℕ) → j < l.col → entry_at l.into l.row j ≡ interval_add (entry_at l.fn.into l.row j) (entry_by l.table l.places l.row j);
  left : (j : ℕ) → l.col ≤ j → j ≤ l.row → entry_at l.into l.row j ≡ entry_at l.fn.into l.row j;
  others : (i j : ℕ) → i < l.fn.into.size → j ≤ i → i ≢ l.row → entry_at l.into i j ≡ entry_at l.fn.into i j;
}
