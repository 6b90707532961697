use Rattle.information_tables.proofs.AnswerLaws.{given_answered}
use Rattle.information_tables.proofs.information.given.Goals as goal

pub returns : goal.returns
returns g c =
    given_answered c.args.rows.now c.args.cells.now c.args.weight.now c.args.scales.now c.args.names.now c.requires.rows.1.names c.requires.cells c.requires.names c.requires.named c.table_of.result
    c.table_of.ensures.table c.table_of.ensures.refused
