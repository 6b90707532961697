use Rattle.combine_cli.proofs.RunLaws.{stopped_front, stopped_others, stopped_second}
use Rattle.combine_cli.proofs.laws.stopped_outputs_are_fronts.Goals as goal

pub returns-clause-front : goal.returns-clause-front
returns-clause-front c = stopped_front

pub returns-clause-others : goal.returns-clause-others
returns-clause-others c = stopped_others

pub returns-clause-first : goal.returns-clause-first
returns-clause-first c = stopped_second
