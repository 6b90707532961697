use Rattle.std.proofs.Common.{◌≡◌}
use Rattle.whole_numbers.specs.Sum.{sum_to}
use Rattle.enclosure_check.specs.VectorParts.{taken_midpoint}
use Rattle.enclosure_check.proofs.vector.short_taken.Given as goal

abbrev pub invariant-loop-j : goal.invariant-loop-j
invariant-loop-j l = l.sum ≡ sum_to l.j (taken_midpoint l.low l.high l.y.numbers.now)
