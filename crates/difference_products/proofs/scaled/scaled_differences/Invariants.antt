use Rattle.std.proofs.Common.{◌≡◌, ◌+◌, ◌^◌}
use Rattle.whole_numbers.specs.Sum.{total_to}
use Rattle.whole_numbers.specs.Intervals.{size}
use Rattle.difference_products.specs.Parts.{scaled_of, AreScaledTo}
use Rattle.difference_products.proofs.scaled.scaled_differences.Given as goal

abbrev pub invariant-loop-row : goal.invariant-loop-row
invariant-loop-row l = record {
  done : AreScaledTo l.row l.differences l.scales l.exponents l.all.items;
  room : l.room + total_to l.row (λ j. size (scaled_of l.differences l.scales l.exponents j)) ≡ 2 ^ 64;
}
