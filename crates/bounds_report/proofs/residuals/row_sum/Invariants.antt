use Rattle.std.proofs.Common.{◌≡◌, ◌≤◌, ◌*◌, ◌^◌}
use Rattle.whole_numbers.specs.Sum.{total_to}
use Rattle.whole_numbers.specs.Intervals.{size}
use Rattle.equil.specs.Tables.{table_of}
use Rattle.bounds_report.specs.Differences.{nth_entry}
use Rattle.bounds_report.specs.Residuals.{row_sum}
use Rattle.bounds_report.proofs.residuals.row_sum.Given as goal

abbrev pub invariant-loop-j : goal.invariant-loop-j
invariant-loop-j g l = record {
  value : l.sum ≡ row_sum l.j (table_of l.w.a l.w.d.items) l.zs l.i;
  bound : size l.sum ≤ 2 ^ 61 * total_to l.j (λ j. size (nth_entry l.zs j));
}
