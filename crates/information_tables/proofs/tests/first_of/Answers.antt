use Rattle.std.proofs.Common.{arith}
use Rattle.snx_rows.specs.declared.rows.Shape.TheVariants.{Value}
use Rattle.named_tables.proofs.MatchLaws.{names_cover}
use Rattle.information_tables.proofs.TestLaws.{short_weight}
use Rattle.information_tables.proofs.tests.first_of.Goals as goal

pub information_of-requires-after_bounds : goal.information_of-requires-after_bounds
information_of-requires-after_bounds g c κs within =
    let named = c.in-Ok.ensures in (
      omega arith,
      (
        (Value, c.requires.rows),
        (
          c.requires.cells,
          (named.1, (names_cover c.args.rows.now c.in-Ok.names c.args.cells.now named c.requires.cells, (short_weight c.args.weight.now c.requires.weight, (omega arith, omega arith)))),
        ),
      ),
    )
