use Rattle.apriori_shift.specs.Answers.{common_value}
use Rattle.apriori_shift.proofs.DifferenceLaws.{value_more}
use Rattle.apriori_shift.proofs.differences.values_of.Goals as goal

pub loop-place-preserved : goal.loop-place-preserved
loop-place-preserved c =
    value_more (common_value c.args.base.now) c.args.names.now c.loop-place.place c.at.result.now c.value_in.result c.loop-place.values.items c.push.new.self.items c.at.ensures c.value_in.ensures c.loop-place.invariant c.in_ok-push.ensures.items
