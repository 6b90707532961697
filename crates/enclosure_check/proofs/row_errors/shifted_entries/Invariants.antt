use Rattle.std.proofs.Common.{◌≡◌, ◌<◌, ℕ}
use Rattle.std.specs.Vec.{vec_len}
use Rattle.whole_numbers.specs.Intervals.{interval_shift}
use Rattle.enclosure_check.specs.ErrorParts.{nth_entry}
use Rattle.enclosure_check.proofs.row_errors.shifted_entries.Given as goal

abbrev pub invariant-loop-k : goal.invariant-loop-k
invariant-loop-k l = record {
  len : vec_len l.shifted ≡ l.k;
  each : (j : ℕ) → j < l.k → nth_entry l.shifted.items j ≡ interval_shift l.h (nth_entry l.entries j);
}
