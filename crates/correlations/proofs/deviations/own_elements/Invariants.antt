use Rattle.std.proofs.Common.{◌≡◌, map, take}
use Rattle.snx_matrices.specs.Named.{element_of}
use Rattle.correlations.proofs.deviations.own_elements.Given as goal

abbrev pub invariant-loop-place : goal.invariant-loop-place
invariant-loop-place l = l.own.items ≡ map (λ id. element_of l.rows l.cells id id) (take l.place l.names)
