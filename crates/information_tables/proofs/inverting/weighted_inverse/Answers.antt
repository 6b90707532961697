use Rattle.information_tables.proofs.AnswerLaws.{inverse_refused, of_inverse}
use Rattle.information_tables.proofs.inverting.weighted_inverse.Goals as goal

pub returns-in-Ok-weigh-clause-made : goal.returns-in-Ok-weigh-clause-made
returns-in-Ok-weigh-clause-made g c =
    of_inverse c.args.weight.now c.args.names.now c.args.covariances.now c.in-Ok.table c.weigh.new.table c.requires.size c.in-Ok.ensures.size c.in-Ok.ensures.holds c.in-Ok.ensures.exists c.in-Ok-weigh.ensures.weighted

pub returns-in-Err-clause-refused : goal.returns-in-Err-clause-refused
returns-in-Err-clause-refused g c = inverse_refused c.args.weight.now c.args.names.now c.args.covariances.now c.in-Err.cause c.in-Err.ensures.refused
