use Rattle.std.proofs.Common.{◌≤◌, ◌∙◌, List, length, sym, ap, subst, arith}
use Rattle.whole_numbers.specs.Intervals.{Interval, size}
use Rattle.neq_stack.specs.Neqs.{neq_view}
use Rattle.neq_stack.specs.Joining.{right_by}
use Rattle.neq_stack.proofs.PlaceLaws.{length_by, within_by, right_small_by}
use Rattle.neq_stack.proofs.joining.right_over.Goals as goal

pub rights_of_both-requires : goal.rights_of_both-requires
rights_of_both-requires g c =
    let names = c.args.layout.now.names in
    let one = neq_view c.args.one.now in
    let other = neq_view c.args.other.now in
    let ones = c.deref-2.result.now in
    let others = c.deref-4.result.now in
    let first = c.deref-2.ensures.value ∙ c.requires.laid.first in
    let second = c.deref-4.ensures.value ∙ c.requires.laid.second in
    let rows = length_by one names ones first in
    let columns = length_by other names others second in
    let fit = c.requires.fit in
    record {
      lengths = columns ∙ sym rows;
      one = within_by one names ones first (length c.deref.result.now) (ap length c.deref.ensures.value ∙ c.requires.one);
      other = within_by other names others second (length c.deref-3.result.now) (ap length c.deref-3.ensures.value ∙ c.requires.other);
      fit = (
        fit.0,
        fit.1,
        λ i li. subst (λ (l : List Interval). size (right_by l ones i) ≤ fit.0) (sym c.deref.ensures.value) (right_small_by one names ones first fit.0 fit.2 i li),
        λ i li. subst (λ (l : List Interval). size (right_by l others i) ≤ fit.1) (sym c.deref-3.ensures.value) (right_small_by other names others second fit.1 fit.3 i (omega (arith, rows, columns))),
        fit.4,
      );
    }
