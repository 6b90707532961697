use Rattle.recover_solution.proofs.EstimateLaws.{NoneBefore}
use Rattle.recover_solution.proofs.names.place_of.Given as goal

abbrev pub invariant-loop-place : goal.invariant-loop-place
invariant-loop-place l = NoneBefore l.rows l.id l.place
