use Rattle.std.proofs.Common.{◌≡◌}
use Rattle.whole_numbers.specs.Sum.{sum_to}
use Rattle.enclosure_check.specs.VectorParts.{part_number}
use Rattle.enclosure_check.proofs.vector.row_by_short.Given as goal

abbrev pub invariant-loop-k : goal.invariant-loop-k
invariant-loop-k l = l.sum ≡ sum_to l.k (part_number l.row l.numbers.numbers.now)
