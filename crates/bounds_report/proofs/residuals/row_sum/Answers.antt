use Rattle.std.proofs.Common.{arith, ◌∙◌}
use Rattle.equil.specs.Tables.{table_of}
use Rattle.bounds_report.proofs.ResidualLaws.{sum_small, sum_fits, sum_size, row_more}
use Rattle.bounds_report.proofs.residuals.row_sum.Goals as goal

pub add-sum-requires : goal.add-sum-requires
add-sum-requires g c =
    let m = sum_small c.args.w.now.a.size c.loop-j.j c.args.zs.now c.loop-j.sum c.term.result c.requires.differences (omega (arith, c.requires.differences.len)) c.loop-j.invariant.bound c.term.ensures.bound in
    let f = sum_fits c.loop-j.sum c.term.result (omega (arith, m.0, m.1)) in
    record { lo_fits = f.0; hi_fits = f.1 }

pub loop-j-preserved : goal.loop-j-preserved
loop-j-preserved g c =
    let m = sum_small c.args.w.now.a.size c.loop-j.j c.args.zs.now c.loop-j.sum c.term.result c.requires.differences (omega (arith, c.requires.differences.len)) c.loop-j.invariant.bound c.term.ensures.bound in
    record {
      value = c.add-sum.ensures ∙ row_more c.loop-j.j (table_of c.args.w.now.a c.args.w.now.d.items) c.args.zs.now c.args.i c.loop-j.sum c.term.result c.loop-j.invariant.value c.term.ensures.value;
      bound = rw c.add-sum.ensures (omega (arith, sum_size c.loop-j.sum c.term.result, m.0));
    }
