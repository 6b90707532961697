use Rattle.std.proofs.Common.{◌≡◌, map, take}
use Rattle.correlations.specs.Exact.{deviation_of}
use Rattle.correlations.proofs.deviations.deviations_of.Given as goal

abbrev pub invariant-loop-place : goal.invariant-loop-place
invariant-loop-place l = l.deviations.items ≡ map (deviation_of l.rows l.cells l.names) (take l.place l.names)
