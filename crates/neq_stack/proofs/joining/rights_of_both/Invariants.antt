use Rattle.std.proofs.Common.{◌≡◌, ◌<◌, ℕ, length, slice_index_or}
use Rattle.whole_numbers.specs.Intervals.{interval_add}
use Rattle.sym_blocks.specs.Tables.{zero_interval}
use Rattle.neq_stack.specs.Joining.{right_by}
use Rattle.neq_stack.proofs.joining.rights_of_both.Given as goal

abbrev pub invariant-loop-k : goal.invariant-loop-k
invariant-loop-k l = record {
  len : length l.right.items ≡ l.k;
  sums : (i : ℕ) → i < l.k → slice_index_or l.right.items i zero_interval ≡ interval_add (right_by l.one l.ones i) (right_by l.other l.others i);
}
