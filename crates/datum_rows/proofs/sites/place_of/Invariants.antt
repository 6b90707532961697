use Rattle.std.proofs.Common.{◌≡◌, ◌<◌, ℕ, false, get_or}
use Rattle.param_ids.specs.Plain.{PlainId}
use Rattle.datum_rows.specs.Sites.{is_at}
use Rattle.datum_rows.specs.Views.{axis_view}
use Rattle.datum_rows.proofs.sites.place_of.Given as goal

abbrev pub invariant-loop-k : goal.invariant-loop-k
invariant-loop-k l = (k : ℕ) (d : PlainId) → k < l.k → is_at l.site (axis_view l.axis) (get_or l.names k d) ≡ false
