use Rattle.std.proofs.Common.{◌≡◌}
use Rattle.whole_numbers.specs.Intervals.{sum_intervals}
use Rattle.enclosure_check.specs.ErrorParts.{part_interval}
use Rattle.enclosure_check.proofs.row_errors.row_by_entries.Given as goal

abbrev pub invariant-loop-k : goal.invariant-loop-k
invariant-loop-k l = l.sum ≡ sum_intervals l.k (part_interval l.row l.entries)
