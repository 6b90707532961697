use Rattle.std.proofs.Common.{sym}
use Rattle.named_tables.proofs.NameLaws.{has_value, lacks}
use Rattle.recover_solution.proofs.names.lacks.Goals as goal

pub returns-in-Some : goal.returns-in-Some
returns-in-Some c = λ others named. sym (has_value others c.args.names.now c.args.row.now c.in-Some.field-0 named.0 c.in-Some.ensures.some)

pub returns-in-None : goal.returns-in-None
returns-in-None c = λ others named. sym (lacks others c.args.names.now c.args.row.now named.0 c.in-None.ensures.none)
