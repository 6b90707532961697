use Rattle.std.proofs.Common.{◌≡◌, ◌<◌, ℕ, length, slice_get}
use Rattle.neq_stack.specs.Joining.{place_at, first_value}
use Rattle.neq_stack.proofs.values.values_of_both.Given as goal

abbrev pub invariant-loop-k : goal.invariant-loop-k
invariant-loop-k g l = record {
  len : length l.values.items ≡ l.k;
  each : (k : ℕ) → k < l.k → slice_get l.values.items k ≡ first_value l.one l.other (place_at l.ones k) (place_at l.others k);
}
