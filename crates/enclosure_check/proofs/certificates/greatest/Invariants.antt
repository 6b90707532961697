use Rattle.std.proofs.Common.{◌≡◌, slice_index}
use Rattle.whole_numbers.specs.Least.{greatest_to}
use Rattle.enclosure_check.proofs.certificates.greatest.Given as goal

abbrev pub invariant-loop-row : goal.invariant-loop-row
invariant-loop-row l = l.most ≡ greatest_to l.row (slice_index l.errors)
