use Rattle.std.proofs.Common.{take}
use Rattle.apriori_shift.specs.Shifts.{AreDifferences}
use Rattle.apriori_shift.proofs.differences.differences_of.Given as goal

abbrev pub invariant-loop-place : goal.invariant-loop-place
invariant-loop-place l = AreDifferences (take l.place l.values) (take l.place l.olds) l.differences.items
