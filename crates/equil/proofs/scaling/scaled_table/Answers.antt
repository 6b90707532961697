use Rattle.std.proofs.Common.{arith}
use Rattle.sym_blocks.specs.Tables.{entry_at}
use Rattle.equil.specs.Tables.{exponent_of}
use Rattle.equil.proofs.RowLaws.{rows_step}
use Rattle.equil.proofs.scaling.scaled_table.Goals as goal

pub loop-row-preserved : goal.loop-row-preserved
loop-row-preserved g c = record {
  same = omega (arith, c.scale_row.ensures.size, c.loop-row.invariant.same);
  list = c.scale_row.ensures.list c.loop-row.invariant.list;
  done = rows_step c.loop-row.row c.loop-row.a c.scale_row.new.a (entry_at c.args.table.now) (exponent_of c.args.e.now) c.loop-row.invariant.done c.scale_row.ensures.kept c.in_default.ensures.whole;
}
