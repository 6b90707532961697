use Rattle.std.proofs.Common.{◌≡◌, map, take}
use Rattle.neq_stack.specs.ByName.{place_in}
use Rattle.neq_stack.proofs.places.places_of.Given as goal

abbrev pub invariant-loop-k : goal.invariant-loop-k
invariant-loop-k l = l.places.items ≡ map (place_in l.part) (take l.k l.names)
