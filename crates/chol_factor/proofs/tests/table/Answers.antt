use Rattle.std.proofs.Common.{◌^◌, arith, w64}
use Rattle.std.proofs.lemmas.Int.{ints, to_z-of_z}
use Rattle.whole_numbers.specs.Lists.{AllAtMost}
use Rattle.chol_factor.proofs.tests.table.Goals as goal

pub returns-clause-small : goal.returns-clause-small
returns-clause-small c =
    let zeros : AllAtMost (2 ^ 61) c.in_ok-square.square.numbers = λ k h. omega (arith, c.in_ok-square.ensures.zeros k h) in
    let one = c.set.ensures.small (2 ^ 61) zeros (omega (arith, ints, c.requires.first, to_z-of_z w64 c.args.first c.ranges.first)) in
    let two = c.set-2.ensures.small (2 ^ 61) one (omega (arith, ints, c.requires.low, to_z-of_z w64 c.args.low c.ranges.low)) in
    c.set-3.ensures.small (2 ^ 61) two (omega (arith, ints, c.requires.last, to_z-of_z w64 c.args.last c.ranges.last))
