use Rattle.std.proofs.Common.{◌∙◌, length, sym}
use Rattle.neq_stack.proofs.PlaceLaws.{length_by, within_by, first_given_by}
use Rattle.neq_stack.proofs.joining.values_over.Goals as goal

pub values_of_both-requires : goal.values_of_both-requires
values_of_both-requires g c =
    let names = c.args.layout.now.names in
    let one = c.requires.0 in
    let other = c.requires.1 in
    let laid = c.requires.2 in
    let ones = c.deref.result.now in
    let others = c.deref-2.result.now in
    let first = c.deref.ensures.value ∙ laid.first in
    let second = c.deref-2.ensures.value ∙ laid.second in
    record {
      lengths = length_by other names others second ∙ sym (length_by one names ones first);
      one = within_by one names ones first (length c.args.one.now) c.requires.3;
      other = within_by other names others second (length c.args.other.now) c.requires.4;
      some = first_given_by c.args.one.now c.args.other.now one other names ones others first second c.requires.3 c.requires.4 laid.union;
    }
