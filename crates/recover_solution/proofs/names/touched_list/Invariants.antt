use Rattle.std.proofs.Common.{◌≡◌, take}
use Rattle.recover_solution.specs.Solutions.{touched_names}
use Rattle.recover_solution.proofs.names.touched_list.Given as goal

abbrev pub invariant-loop-place : goal.invariant-loop-place
invariant-loop-place l = l.list.items ≡ touched_names l.apriori l.cells (take l.place l.names)
