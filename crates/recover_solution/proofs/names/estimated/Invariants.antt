use Rattle.std.proofs.Common.{◌≡◌, None, take}
use Rattle.std.specs.List.{find}
use Rattle.recover_solution.specs.Views.{solution_view}
use Rattle.recover_solution.proofs.EstimateLaws.{lacking}
use Rattle.recover_solution.proofs.names.estimated.Given as goal

abbrev pub invariant-loop-place : goal.invariant-loop-place
invariant-loop-place l = find (lacking (solution_view l.solution)) (take l.place l.rows) ≡ None
