use Rattle.std.proofs.Common.{◌≡◌, ◌<◌, ℕ, slice_index_or}
use Rattle.std.specs.Vec.{vec_len}
use Rattle.enclosure_check.specs.ErrorParts.{shifted_error}
use Rattle.enclosure_check.proofs.row_errors.errors_of.Given as goal

abbrev pub invariant-loop-i : goal.invariant-loop-i
invariant-loop-i l = record {
  len : vec_len l.errors ≡ l.i;
  each : (k : ℕ) → k < l.i → slice_index_or l.errors.items k 0 ≡ shifted_error l.p l.entries l.h k;
}
