use Rattle.std.proofs.Common.{arith}
use Rattle.equil.proofs.Hundreds.{multiplied_few, multiplied_next, multiplied_smaller}
use Rattle.equil.proofs.powers.products.Goals as goal

pub overflow_add-k : goal.overflow_add-k
overflow_add-k c = let f = multiplied_few c.args.h c.loop-rest.rest c.loop-rest.k c.requires.some c.loop-rest.invariant in omega arith

pub loop-rest-smaller : goal.loop-rest-smaller
loop-rest-smaller c = multiplied_smaller c.args.h c.loop-rest.rest c.loop-rest.k c.requires.some c.loop-rest.invariant (omega arith)

pub loop-rest-preserved : goal.loop-rest-preserved
loop-rest-preserved c = multiplied_next c.args.h c.loop-rest.rest c.loop-rest.k c.loop-rest.invariant (omega arith)

pub returns-clause-few : goal.returns-clause-few
returns-clause-few c = multiplied_few c.args.h c.loop-rest.rest c.loop-rest.k c.requires.some c.loop-rest.invariant
