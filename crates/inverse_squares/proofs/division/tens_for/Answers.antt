use Rattle.std.proofs.Common.{FitsSigned, arith}
use Rattle.std.specs.Int.{w128}
use Rattle.std.proofs.lemmas.Int.{to_z-of_z}
use Rattle.inverse_squares.proofs.TensLaws.{tens_more, tens_end}
use Rattle.inverse_squares.proofs.division.tens_for.Goals as goal

pub loop-tens-preserved : goal.loop-tens-preserved
loop-tens-preserved c = record { whole = tens_more _ _ _ c.loop-tens.invariant.whole; few = omega arith; within = omega arith }

pub returns-else-raised-le-TENTH : goal.returns-else-raised-le-TENTH
returns-else-raised-le-TENTH c =
    let f : FitsSigned w128 c.args.h = c.ranges.h in
    let e = simp to_z-of_z at c.loop-tens.invariant.whole in
    tens_end c.args.h c.args.most c.loop-tens.tens c.loop-tens.raised e c.loop-tens.invariant.few c.loop-tens.invariant.within (omega arith)
