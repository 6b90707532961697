use Rattle.std.proofs.Common.{◌≡◌, ◌+◌, ◌^◌}
use Rattle.whole_numbers.specs.Sum.{total_to}
use Rattle.whole_numbers.specs.Intervals.{size}
use Rattle.bounds_report.specs.Differences.{difference_of, AreDifferencesOf}
use Rattle.bounds_report.proofs.differences.all_differences.Given as goal

abbrev pub invariant-loop-row : goal.invariant-loop-row
invariant-loop-row l = record {
  done : AreDifferencesOf l.row l.rows l.all.items;
  room : l.room + total_to l.row (λ j. size (difference_of l.rows j)) ≡ 2 ^ 65;
}
