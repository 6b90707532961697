use Rattle.std.proofs.Common.{◌^◌, All, take}
use Rattle.decimal_e.specs.Fractions.{IsAtMost}
use Rattle.apriori_shift.specs.Answers.{common_value}
use Rattle.apriori_shift.proofs.tests.has_values.Given as goal

abbrev pub invariant-loop-place : goal.invariant-loop-place
invariant-loop-place l = All (λ id. IsAtMost (10 ^ 12) (common_value l.base id)) (take l.place l.names)
