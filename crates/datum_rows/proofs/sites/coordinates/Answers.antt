use Rattle.std.proofs.Common.{◌≡◌, ◌∙◌, None, ap, sym}
use Rattle.neq_stack.specs.Neqs.{neq_view}
use Rattle.neq_stack.specs.Systems.{name_at}
use Rattle.datum_rows.specs.Sites.{coefficient_of}
use Rattle.datum_rows.specs.Views.{coefficient_by, IsNearBy}
use Rattle.datum_rows.proofs.NamedRows.{name_is}
use Rattle.datum_rows.proofs.SiteLaws.{read_more, length_next}
use Rattle.datum_rows.proofs.sites.coordinates.Goals as goal

pub loop-k-preserved : goal.loop-k-preserved
loop-k-preserved g c =
    let neq = neq_view c.args.neq.now in
    let sites = c.args.sites.now in
    let k = c.loop-k.k in
    let before = c.loop-k.invariant in
    let items = c.in_ok-push.ensures.items in
    let named = name_is neq.names k c.at.result.now c.at.ensures in
    record {
      count = length_next c.loop-k.list.items c.push.new.self.items c.coordinate_of.result k before.count items;
      each = λ motion. read_more (λ i o. coefficient_by motion o ≡ coefficient_of sites neq motion (name_at neq.names i)) c.loop-k.list.items c.push.new.self.items c.coordinate_of.result None k before.count items (before.each motion)
          (c.coordinate_of.ensures.value motion ∙ ap (coefficient_of sites neq motion) (sym named));
      near = read_more (λ i o. IsNearBy o) c.loop-k.list.items c.push.new.self.items c.coordinate_of.result None k before.count items before.near c.coordinate_of.ensures.near;
    }
