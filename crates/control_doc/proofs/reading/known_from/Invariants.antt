use Rattle.std.proofs.Common.{◌≡◌, map, drop}
use Rattle.control_doc.specs.Control.{known_from}
use Rattle.control_doc.specs.Views.{plan_view, reduction_view}
use Rattle.control_doc.proofs.reading.known_from.Given as goal

abbrev pub invariant-loop-k : goal.invariant-loop-k
invariant-loop-k l = known_from l.k (map plan_view l.files) (map reduction_view (drop l.k l.reductions)) ≡ known_from 0 (map plan_view l.files) (map reduction_view l.reductions)
