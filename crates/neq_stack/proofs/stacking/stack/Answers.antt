use Rattle.neq_stack.specs.Neqs.{neq_view}
use Rattle.neq_stack.proofs.GrowLaws.{pair_refused}
use Rattle.neq_stack.proofs.stacking.stack.Goals as goal

pub returns-in-Err-clause-refused : goal.returns-in-Err-clause-refused
returns-in-Err-clause-refused g c = pair_refused (neq_view c.args.into.now) (neq_view c.args.other.now) c.in-Err.cause c.requires.into c.requires.other c.in-Err.ensures.refused
