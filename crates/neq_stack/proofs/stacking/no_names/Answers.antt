use Rattle.neq_stack.proofs.GrowLaws.{none_listed}
use Rattle.neq_stack.proofs.stacking.no_names.Goals as goal

pub returns-in-Ok : goal.returns-in-Ok
returns-in-Ok c = none_listed c.in-Ok.names c.in-Ok.ensures.0
