use Rattle.std.proofs.Common.{arith, ◌∙◌}
use Rattle.difference_products.proofs.SumLaws.{sum_small, sum_fits, sum_size, sum_more}
use Rattle.difference_products.proofs.rows.row_sum.Goals as goal

pub add-sum-requires : goal.add-sum-requires
add-sum-requires g c =
    let m = sum_small c.args.w.now.a.size c.loop-j.j c.args.zs.now c.loop-j.sum c.term.result c.requires.small (omega (arith, c.requires.small.len)) c.loop-j.invariant.bound c.term.ensures.bound in
    let f = sum_fits c.loop-j.sum c.term.result (omega (arith, m.0, m.1)) in
    record { lo_fits = f.0; hi_fits = f.1 }

pub loop-j-preserved : goal.loop-j-preserved
loop-j-preserved g c =
    let m = sum_small c.args.w.now.a.size c.loop-j.j c.args.zs.now c.loop-j.sum c.term.result c.requires.small (omega (arith, c.requires.small.len)) c.loop-j.invariant.bound c.term.ensures.bound in
    record {
      value = c.add-sum.ensures ∙ sum_more c.loop-j.j c.args.w.now.a c.args.zs.now c.args.i c.loop-j.sum c.term.result c.loop-j.invariant.value c.term.ensures.value;
      bound = rw c.add-sum.ensures (omega (arith, sum_size c.loop-j.sum c.term.result, m.0));
    }
