use Rattle.std.proofs.Common.{arith}
use Rattle.sym_blocks.specs.Tables.{entry_at}
use Rattle.equil.specs.Tables.{exponent_of}
use Rattle.equil.proofs.RowLaws.{kept_step, row_step}
use Rattle.equil.proofs.scaling.scale_row.Goals as goal

pub loop-j-preserved : goal.loop-j-preserved
loop-j-preserved g c = record {
  same = omega (arith, c.set.ensures.size, c.loop-j.invariant.same);
  kept = kept_step c.args.i c.loop-j.j c.in-Some.scaled c.args.a.now c.loop-j.a c.set.new.self (omega (arith, c.loop-j.invariant.same, c.requires.sizes, c.requires.row)) (record { here = c.set.ensures.here; others = c.set.ensures.others }) c.loop-j.invariant.kept;
  list = λ _. c.set.ensures.whole;
  done = row_step c.args.i c.loop-j.j c.in-Some.scaled c.loop-j.a c.set.new.self (entry_at c.args.table.now) (exponent_of c.args.e.now) (omega (arith, c.loop-j.invariant.same, c.requires.sizes, c.requires.row)) (omega arith) (record { here = c.set.ensures.here; others = c.set.ensures.others }) c.loop-j.invariant.done c.in-Some.ensures.1 c.in-Some.ensures.0;
}
