use Rattle.std.proofs.Common.{◌≡◌, map, take}
use Rattle.apriori_shift.specs.Answers.{common_value}
use Rattle.apriori_shift.proofs.differences.values_of.Given as goal

abbrev pub invariant-loop-place : goal.invariant-loop-place
invariant-loop-place l = l.values.items ≡ map (common_value l.base) (take l.place l.names)
