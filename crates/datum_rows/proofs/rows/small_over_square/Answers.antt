use Rattle.std.proofs.Common.{arith, w32}
use Rattle.std.specs.Int.{w128}
use Rattle.std.proofs.lemmas.Int.{to_z-of_z}
use Rattle.datum_rows.proofs.RowLaws.{over_moved}
use Rattle.datum_rows.proofs.rows.small_over_square.Goals as goal

pub returns-in_default : goal.returns-in_default
returns-in_default c =
    let none = c.in_default.ensures in
    (none.0, over_moved _ _ c.args.sigma.now _ _ none.0 (to_z-of_z w128 c.args.h c.ranges.h) (to_z-of_z w32 c.args.z c.ranges.z) none.1, λ small. none.2 (omega arith))
