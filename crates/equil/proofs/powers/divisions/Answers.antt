use Rattle.std.proofs.Common.{arith}
use Rattle.equil.proofs.Hundreds.{divided_few, divided_next}
use Rattle.equil.proofs.powers.divisions.Goals as goal

pub overflow_add-k : goal.overflow_add-k
overflow_add-k c = let f = divided_few c.args.h c.loop-rest.rest c.loop-rest.k c.loop-rest.invariant c.requires.few in omega arith

pub loop-rest-preserved : goal.loop-rest-preserved
loop-rest-preserved c = divided_next c.args.h c.loop-rest.rest c.div_ceil-rest.result c.loop-rest.k c.loop-rest.invariant (omega arith) c.div_ceil-rest.ensures

pub returns-clause-few : goal.returns-clause-few
returns-clause-few c = divided_few c.args.h c.loop-rest.rest c.loop-rest.k c.loop-rest.invariant c.requires.few
