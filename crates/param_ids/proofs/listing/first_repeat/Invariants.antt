use Rattle.param_ids.proofs.Repeats.{RisesTo}
use Rattle.param_ids.proofs.listing.first_repeat.Given as goal

abbrev pub invariant-loop-i : goal.invariant-loop-i
invariant-loop-i l = RisesTo l.ids l.i
