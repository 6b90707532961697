use Rattle.std.proofs.Common.{rules, length, arith, FitsSigned}
use Rattle.std.specs.Int.{w128}
use Rattle.std.proofs.lemmas.Int.{to_z-of_z}
use Rattle.enclosure_check.proofs.VectorLaws.{row_small}
use Rattle.enclosure_check.proofs.vector.taken.Goals as goal

pub returns-then-is_short-clause-bound : goal.returns-then-is_short-clause-bound
returns-then-is_short-clause-bound c =
    let fits : FitsSigned w128 c.short_taken.result = search rules in
    let y = c.args.y.now.numbers.now in
    rw (to_z-of_z w128 c.short_taken.result fits, c.short_taken.ensures) (row_small c.args.low.now c.args.high.now y (length y) c.requires (omega arith))

pub returns-else-is_short-clause-bound : goal.returns-else-is_short-clause-bound
returns-else-is_short-clause-bound c =
    let fits : FitsSigned w128 c.wide_taken.result = search rules in
    let y = c.args.y.now.numbers.now in
    rw (to_z-of_z w128 c.wide_taken.result fits, c.wide_taken.ensures) (row_small c.args.low.now c.args.high.now y (length y) c.requires (omega arith))
