use Rattle.std.proofs.Common.{◌∙◌, ap}
use Rattle.whole_numbers.specs.Intervals.{interval_add}
use Rattle.neq_stack.specs.Neqs.{neq_view}
use Rattle.neq_stack.specs.Joining.{entry_by, right_by, places_in}
use Rattle.neq_stack.proofs.PlaceLaws.{first_by}
use Rattle.neq_stack.proofs.joining.over_names.Goals as goal

pub returns : goal.returns
returns g c =
    let names = c.args.layout.names in
    let one = neq_view c.args.one.now in
    let other = neq_view c.args.other.now in
    let ones = c.args.layout.ones.items in
    let others = c.args.layout.others.items in
    let laid = c.requires.laid in
    record {
      union = laid.union;
      few = laid.few;
      rows = c.in_ok-table.ensures.size;
      whole = c.in_ok-table.ensures.whole;
      entries = λ i j row h.
          c.in_ok-table.ensures.sums i j row h
          ∙ ap (λ p. interval_add (entry_by one.table p i j) (entry_by other.table others i j)) laid.first
          ∙ ap (λ p. interval_add (entry_by one.table (places_in one names) i j) (entry_by other.table p i j)) laid.second;
      right_length = c.in_ok-right.ensures.len;
      rights = λ i row.
          c.in_ok-right.ensures.sums i row
          ∙ ap (λ p. interval_add (right_by one.right p i) (right_by other.right others i)) laid.first
          ∙ ap (λ p. interval_add (right_by one.right (places_in one names) i) (right_by other.right p i)) laid.second;
      value_length = c.in_ok-apriori.ensures.len;
      values = first_by c.in_ok-apriori.apriori.items c.deref.result.now one.apriori c.deref-2.result.now other.apriori ones (places_in one names) others (places_in other names) c.deref.ensures.value c.deref-2.ensures.value laid.first laid.second c.in_ok-apriori.ensures.each;
      unit_length = c.in_ok-units.ensures.len;
      units = first_by c.in_ok-units.units.items c.deref-3.result.now one.units c.deref-4.result.now other.units ones (places_in one names) others (places_in other names) c.deref-3.ensures.value c.deref-4.ensures.value laid.first laid.second c.in_ok-units.ensures.each;
      scale_length = c.in_ok-scales.ensures.len;
      scales = first_by c.in_ok-scales.scales.items c.deref-5.result.now one.scales c.deref-6.result.now other.scales ones (places_in one names) others (places_in other names) c.deref-5.ensures.value c.deref-6.ensures.value laid.first laid.second c.in_ok-scales.ensures.each;
    }
