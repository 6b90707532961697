use Rattle.std.proofs.Common.{◌≡◌, ◌≤◌, ◌<◌, ℕ, length}
use Rattle.whole_numbers.specs.Intervals.{interval_add}
use Rattle.sym_blocks.specs.Tables.{before, entry_at}
use Rattle.neq_stack.specs.Joining.{entry_by}
use Rattle.neq_stack.proofs.adding.add_table.Given as goal

abbrev pub invariant-loop-row : goal.invariant-loop-row
invariant-loop-row g l = record {
  size : l.into.size ≡ l.fn.into.size;
  whole : length l.into.entries ≡ before l.into.size;
  done : (i j : ℕ) → i < l.row → j ≤ i → entry_at l.into i j ≡ interval_add (entry_at l.fn.into i j) (entry_by l.table l.places i j);
  left : (i j : ℕ) → l.row ≤ i → i < l.fn.into.size → j ≤ i → entry_at l.into i j ≡ entry_at l.fn.into i j;
}
