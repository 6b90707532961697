use Rattle.std.proofs.Common.{arith}
use Rattle.whole_numbers.proofs.ColumnsSet.{transpose_more}
use Rattle.whole_numbers.proofs.transposes.transposed.Goals as goal

pub loop-c-preserved : goal.loop-c-preserved
loop-c-preserved c =
    transpose_more c.loop-c.c c.args.s.now c.loop-c.t c.set_column.new.s c.row.result.now (omega arith) c.row.ensures.numbers c.row.ensures.small c.loop-c.invariant c.set_column.ensures
