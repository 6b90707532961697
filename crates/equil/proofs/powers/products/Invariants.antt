use Rattle.std.proofs.Common.{◌-◌, ◌^◌}
use Rattle.equil.proofs.Hundreds.{Multiplied}
use Rattle.equil.proofs.powers.products.Given as goal

abbrev pub invariant-loop-rest : goal.invariant-loop-rest
invariant-loop-rest l = Multiplied l.fn.h l.rest l.k

abbrev pub decreases-loop-rest : goal.decreases-loop-rest
decreases-loop-rest l = 2 ^ 60 - l.rest
