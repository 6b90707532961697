use Rattle.std.proofs.Common.{refl}
use Rattle.difference_products.proofs.DifferenceLaws.{first_far}
use Rattle.difference_products.proofs.scaled.scaled_differences.Goals as goal

pub returns-in-None-clause-far : goal.returns-in-None-clause-far
returns-in-None-clause-far c =
    (refl, first_far _ c.args.differences.now c.args.scales.now c.args.exponents.now c.loop-row.all.items c.loop-row.row c.loop-row.room c.loop-row-test.true c.loop-row.invariant.done c.loop-row.invariant.room c.in-None.ensures)
