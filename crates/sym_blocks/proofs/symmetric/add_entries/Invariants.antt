use Rattle.std.proofs.Common.{◌≡◌, ◌≤◌, ◌<◌, ℕ, slice_index_or}
use Rattle.whole_numbers.specs.Intervals.{interval_add}
use Rattle.sym_blocks.specs.Tables.{zero_interval}
use Rattle.sym_blocks.proofs.symmetric.add_entries.Given as goal

abbrev pub invariant-loop-k : goal.invariant-loop-k
invariant-loop-k l = record {
  done : (k : ℕ) → k < l.k → slice_index_or l.entries k zero_interval ≡ interval_add (slice_index_or l.fn.entries k zero_interval) (slice_index_or l.other k zero_interval);
  left : (k : ℕ) → l.k ≤ k → slice_index_or l.entries k zero_interval ≡ slice_index_or l.fn.entries k zero_interval;
}
