use Rattle.std.proofs.Common.{arith}
use Rattle.snx_rows.specs.declared.rows.Shape.TheVariants.{Value}
use Rattle.named_tables.proofs.MatchLaws.{names_cover}
use Rattle.correlations.proofs.tests.first_of.Goals as goal

pub correlated-requires : goal.correlated-requires
correlated-requires c =
    let named = c.in-Ok.ensures in
    (omega arith, ((Value, c.requires.rows), (c.requires.cells, (named.1, names_cover c.args.rows.now c.in-Ok.names c.args.cells.now named c.requires.cells))))
