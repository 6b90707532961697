use Rattle.whole_numbers.specs.Lists.{at}
use Rattle.enclosure_check.specs.Vectors.{AllFitAfter}
use Rattle.enclosure_check.proofs.vector.fit_after.Given as goal

abbrev pub invariant-loop-k : goal.invariant-loop-k
invariant-loop-k l = AllFitAfter l.k (at l.numbers) l.h
