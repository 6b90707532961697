use Rattle.std.proofs.Common.{◌≡◌, ◌≢◌, ◌<◌, ℕ, length, slice_index_or}
use Rattle.sym_blocks.specs.Tables.{before, entry_at, zero_interval}
use Rattle.recover_solution.proofs.constraints.diagonal.Given as goal

abbrev pub invariant-loop-place : goal.invariant-loop-place
invariant-loop-place g l = record {
  size : l.table.size ≡ length l.intervals;
  lower : length l.table.entries ≡ before l.table.size;
  here : (i : ℕ) → i < l.place → entry_at l.table i i ≡ slice_index_or l.intervals i zero_interval;
  others : (i j : ℕ) → i < length l.intervals → j < length l.intervals → i ≢ j → entry_at l.table i j ≡ zero_interval;
}
