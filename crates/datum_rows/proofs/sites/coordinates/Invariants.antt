use Rattle.std.proofs.Common.{◌≡◌, ◌<◌, ℕ, length}
use Rattle.neq_stack.specs.Neqs.{neq_view}
use Rattle.neq_stack.specs.Systems.{name_at}
use Rattle.datum_rows.specs.Conditions.{Motion}
use Rattle.datum_rows.specs.Sites.{coefficient_of}
use Rattle.datum_rows.specs.Views.{coefficient_by, coordinate_at, IsNearBy}
use Rattle.datum_rows.proofs.sites.coordinates.Given as goal

abbrev pub invariant-loop-k : goal.invariant-loop-k
invariant-loop-k g l = record {
  count : length l.list.items ≡ l.k;
  each : (motion : Motion) (k : ℕ) → k < l.k → coefficient_by motion (coordinate_at l.list.items k) ≡ coefficient_of l.sites (neq_view l.neq) motion (name_at l.neq.names k);
  near : (k : ℕ) → k < l.k → IsNearBy (coordinate_at l.list.items k);
}
