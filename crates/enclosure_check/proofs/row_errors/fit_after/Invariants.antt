use Rattle.std.proofs.Common.{◌≤◌, ◌<◌, ◌^◌, ℕ}
use Rattle.whole_numbers.specs.Intervals.{size, interval_shift}
use Rattle.enclosure_check.specs.ErrorParts.{nth_entry}
use Rattle.enclosure_check.proofs.row_errors.fit_after.Given as goal

abbrev pub invariant-loop-k : goal.invariant-loop-k
invariant-loop-k l = (j : ℕ) → j < l.k → size (interval_shift l.h (nth_entry l.entries j)) ≤ 2 ^ 66
