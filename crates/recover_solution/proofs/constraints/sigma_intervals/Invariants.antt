use Rattle.std.proofs.Common.{◌≡◌, ◌<◌, ℕ, length}
use Rattle.recover_solution.specs.Parts.{IsSigmaAt}
use Rattle.recover_solution.proofs.constraints.sigma_intervals.Given as goal

abbrev pub invariant-loop-place : goal.invariant-loop-place
invariant-loop-place l = record {
  len : length l.intervals.items ≡ l.place;
  each : (i : ℕ) → i < l.place → IsSigmaAt l.apriori l.weight l.scales l.names l.intervals.items i;
}
