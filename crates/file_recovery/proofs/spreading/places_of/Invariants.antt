use Rattle.std.proofs.Common.{◌≡◌, map, take}
use Rattle.neq_stack.specs.ByName.{place_in}
use Rattle.file_recovery.proofs.spreading.places_of.Given as goal

abbrev pub invariant-loop-place : goal.invariant-loop-place
invariant-loop-place l = l.places.items ≡ map (place_in l.part) (take l.place l.names)
