use Rattle.std.proofs.Common.{◌≡◌, ◌≤◌, ◌<◌, ◌^◌, ℕ, length, slice_index_or}
use Rattle.whole_numbers.specs.Intervals.{interval_sub, size}
use Rattle.sym_blocks.specs.Tables.{zero_interval}
use Rattle.apriori_shift.proofs.rights.rights_less.Given as goal

abbrev pub invariant-loop-row : goal.invariant-loop-row
invariant-loop-row l = record {
  len : length l.less.items ≡ l.row;
  each : (i : ℕ) → i < l.row → slice_index_or l.less.items i zero_interval ≡ interval_sub (slice_index_or l.right i zero_interval) (slice_index_or l.products i zero_interval);
  fit : (i : ℕ) → i < l.row → size (interval_sub (slice_index_or l.right i zero_interval) (slice_index_or l.products i zero_interval)) ≤ 10 ^ 35;
}
