use Rattle.std.proofs.Common.{rules, length, arith, FitsSigned}
use Rattle.std.specs.Int.{w128}
use Rattle.std.proofs.lemmas.Int.{to_z-of_z}
use Rattle.enclosure_check.proofs.VectorLaws.{parts_small}
use Rattle.enclosure_check.proofs.vector.row_by_numbers.Goals as goal

pub returns-then-is_short-clause-bound : goal.returns-then-is_short-clause-bound
returns-then-is_short-clause-bound c =
    let fits : FitsSigned w128 c.row_by_short.result = search rules in
    let vs = c.args.numbers.now.numbers.now in
    rw (to_z-of_z w128 c.row_by_short.result fits, c.row_by_short.ensures) (parts_small c.args.row.now vs (length vs) c.requires (omega arith))

pub returns-else-is_short-clause-bound : goal.returns-else-is_short-clause-bound
returns-else-is_short-clause-bound c =
    let fits : FitsSigned w128 c.row_by_wide.result = search rules in
    let vs = c.args.numbers.now.numbers.now in
    rw (to_z-of_z w128 c.row_by_wide.result fits, c.row_by_wide.ensures) (parts_small c.args.row.now vs (length vs) c.requires (omega arith))
