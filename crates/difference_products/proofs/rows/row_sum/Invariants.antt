use Rattle.std.proofs.Common.{◌≡◌, ◌≤◌, ◌*◌, ◌^◌}
use Rattle.whole_numbers.specs.Sum.{total_to}
use Rattle.whole_numbers.specs.Intervals.{size}
use Rattle.difference_products.specs.Parts.{interval_of, sum_of_row}
use Rattle.difference_products.proofs.rows.row_sum.Given as goal

abbrev pub invariant-loop-j : goal.invariant-loop-j
invariant-loop-j g l = record {
  value : l.sum ≡ sum_of_row l.w.a l.zs l.i l.j;
  bound : size l.sum ≤ 2 ^ 61 * total_to l.j (λ j. size (interval_of l.zs j));
}
