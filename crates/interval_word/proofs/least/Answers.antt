use Rattle.std.proofs.Common.{arith}
use Rattle.std.proofs.lemmas.Int.{to_z-of_z}
use Rattle.whole_numbers.specs.Intervals.{least_of}
use Rattle.interval_word.proofs.least.Goals as goal

pub returns-clause-value : goal.returns-clause-value
unfolding least_of
returns-clause-value c = grind (arith, to_z-of_z)
