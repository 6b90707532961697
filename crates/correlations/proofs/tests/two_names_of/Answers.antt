use Rattle.std.proofs.Common.{◌∙◌, sym}
use Rattle.correlations.proofs.TestLaws.{two_rows}
use Rattle.correlations.proofs.tests.two_names_of.Goals as goal

pub first_of-requires-clause-rows : goal.first_of-requires-clause-rows
first_of-requires-clause-rows c =
    two_rows c.args.low c.args.high c.args.one c.row_of.result c.row_of-2.result c.row_of.ensures c.row_of-2.ensures c.requires.one (sym c.are_one.ensures ∙ c.if-are_one.false)
