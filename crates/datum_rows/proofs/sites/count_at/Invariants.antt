use Rattle.std.proofs.Common.{◌≡◌, ◌≤◌, length, filter, take}
use Rattle.datum_rows.specs.Sites.{is_at}
use Rattle.datum_rows.specs.Views.{axis_view}
use Rattle.datum_rows.proofs.sites.count_at.Given as goal

abbrev pub invariant-loop-k : goal.invariant-loop-k
invariant-loop-k l = record {
  few : l.count ≤ l.k;
  counted : l.count ≡ length (filter (is_at l.site (axis_view l.axis)) (take l.k l.names));
}
