use Rattle.std.proofs.Common.{sym}
use Rattle.named_tables.proofs.NameLaws.{has_value, lacks}
use Rattle.named_tables.proofs.naming.is_unmatched.Goals as goal

pub returns-in-Some : goal.returns-in-Some
returns-in-Some c = λ apriori p. sym (has_value apriori c.args.known.now c.args.row.now c.in-Some.field-0 p c.in-Some.ensures.some)

pub returns-in-None : goal.returns-in-None
returns-in-None c = λ apriori p. sym (lacks apriori c.args.known.now c.args.row.now p c.in-None.ensures.none)
