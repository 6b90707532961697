use Rattle.information_tables.proofs.AnswerLaws.{named_refused}
use Rattle.information_tables.proofs.inverting.inverse_of.Goals as goal

pub returns-in-Err-clause-refused : goal.returns-in-Err-clause-refused
returns-in-Err-clause-refused g c = named_refused c.args.names.now c.args.covariances.now c.in-Err.refusal c.by_name.result c.by_name.ensures c.in-Err.ensures.refused
