use Rattle.whole_numbers.proofs.ColumnsSet.{IsSetTo}
use Rattle.whole_numbers.proofs.transposes.set_column.Given as goal

abbrev pub invariant-loop-i : goal.invariant-loop-i
invariant-loop-i l = IsSetTo l.i l.fn.s l.s l.c l.x
