use Rattle.equil.proofs.Hundreds.{Divided}
use Rattle.equil.proofs.powers.divisions.Given as goal

abbrev pub invariant-loop-rest : goal.invariant-loop-rest
invariant-loop-rest l = Divided l.fn.h l.rest l.k

abbrev pub decreases-loop-rest : goal.decreases-loop-rest
decreases-loop-rest l = l.rest
