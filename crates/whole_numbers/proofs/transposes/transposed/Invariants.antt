use Rattle.whole_numbers.proofs.ColumnsSet.{IsTransposeTo}
use Rattle.whole_numbers.proofs.transposes.transposed.Given as goal

abbrev pub invariant-loop-c : goal.invariant-loop-c
invariant-loop-c l = IsTransposeTo l.c l.s l.t
