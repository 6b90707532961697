use Rattle.std.proofs.Common.{arith}
use Rattle.apriori_shift.proofs.DifferenceLaws.{differences_more}
use Rattle.apriori_shift.proofs.differences.differences_of.Goals as goal

pub loop-place-preserved : goal.loop-place-preserved
loop-place-preserved c =
    differences_more c.args.values.now c.args.olds.now c.loop-place.differences.items c.push.new.self.items c.loop-place.place c.index-values-place.result c.index-olds-place.result c.difference.result (omega arith) (omega arith)
    c.index-values-place.is c.index-olds-place.is c.loop-place.invariant c.difference.ensures c.in_ok-push.ensures.items
