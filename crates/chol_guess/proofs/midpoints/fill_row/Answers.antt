use Rattle.std.proofs.Common.{◌∙◌, ◌≤◌, ◌^◌, arith, rules, subst, sym, unsigned_abs, FitsSigned, w64}
use Rattle.std.proofs.lemmas.Int.{to_z-of_z}
use Rattle.chol_guess.proofs.Makings.{row_filled, rows_filled}
use Rattle.chol_guess.proofs.midpoints.fill_row.Goals as goal

pub loop-k-preserved : goal.loop-k-preserved
loop-k-preserved g c =
    let fits : FitsSigned w64 c.midpoint.result = search rules in
    let is = to_z-of_z w64 c.midpoint.result fits in
    let filled = row_filled c.args.w.now.a c.loop-k.s c.set.new.self c.args.i c.loop-k.k _ c.loop-k.invariant.same c.requires.row (omega (arith, c.loop-k.invariant.same)) (is ∙ c.midpoint.ensures.value) c.loop-k.invariant.before c.loop-k.invariant.here c.set.ensures in
    record {
      same = c.set.ensures.size ∙ c.loop-k.invariant.same;
      small = c.set.ensures.small (2 ^ 61) c.loop-k.invariant.small (subst (λ z. unsigned_abs z ≤ 2 ^ 61) (sym is) c.midpoint.ensures.bound);
      before = filled.0;
      here = filled.1;
    }

pub returns-clause-rows : goal.returns-clause-rows
returns-clause-rows g c = rows_filled c.args.w.now.a c.loop-k.s c.args.i c.loop-k.invariant.before (λ k h. c.loop-k.invariant.here k (omega arith))
