use Rattle.std.proofs.Common.{◌≡◌}
use Rattle.whole_numbers.specs.Intervals.{sum_intervals}
use Rattle.enclosure_check.specs.ErrorParts.{taken_interval}
use Rattle.enclosure_check.proofs.row_errors.taken.Given as goal

abbrev pub invariant-loop-j : goal.invariant-loop-j
invariant-loop-j l = l.sum ≡ sum_intervals l.j (taken_interval l.low l.high l.y)
