use Rattle.combine_cli.proofs.AlikeLaws.{alike_admitted, alike_combine}
use Rattle.combine_cli.proofs.laws.alike_controls.Goals as goal

pub returns-clause-admitted : goal.returns-clause-admitted
returns-clause-admitted c = alike_admitted

pub returns-clause-texts : goal.returns-clause-texts
returns-clause-texts c = alike_combine
