use Rattle.std.proofs.Common.{◌∙◌, sym, length}
use Rattle.equil.proofs.ScaledLaws.{carries}
use Rattle.equil.proofs.WorkingLaws.{past_table, past_right, scaled_small, right_small, all_working}
use Rattle.equil.proofs.making.working.Goals as goal

pub returns-in-Err-scaled_table-clause-past : goal.returns-in-Err-scaled_table-clause-past
returns-in-Err-scaled_table-clause-past g c =
    past_table c.args.table.now c.args.right.now c.in-Ok.e.items c.deref.result.now c.deref.ensures.value c.in-Ok.ensures.are c.in-Err-scaled_table.refusal c.in-Err-scaled_table.ensures.past

pub returns-in-Err-scaled_right-clause-past : goal.returns-in-Err-scaled_right-clause-past
returns-in-Err-scaled_right-clause-past g c =
    past_right c.args.table.now c.in-Ok-scaled_table.a c.args.right.now c.in-Ok.e.items c.deref.result.now c.deref-2.result.now c.deref.ensures.value c.deref-2.ensures.value c.requires c.in-Ok.ensures.are c.in-Ok-scaled_table.ensures.scaled c.in-Err-scaled_right.refusal c.in-Err-scaled_right.ensures.past

pub invariant_of-result-clause-entries_small : goal.invariant_of-result-clause-entries_small
invariant_of-result-clause-entries_small g c =
    scaled_small c.args.table.now.size c.args.table.now c.in-Ok-scaled_table.a c.in-Ok.e.items c.deref.result.now c.deref.ensures.value (sym c.in-Ok-scaled_table.ensures.size) c.in-Ok-scaled_table.ensures.scaled

pub invariant_of-result-clause-right_small : goal.invariant_of-result-clause-right_small
invariant_of-result-clause-right_small g c =
    right_small (length c.args.right.now) c.in-Ok-scaled_table.a.size c.in-Ok-scaled_right.d.items _ _ (c.requires ∙ sym c.in-Ok-scaled_table.ensures.size) c.in-Ok-scaled_right.ensures.scaled

pub returns-clause-working : goal.returns-clause-working
returns-clause-working g c =
    all_working c.args.table.now c.in-Ok-scaled_table.a c.args.right.now c.in-Ok-scaled_right.d.items c.in-Ok.e.items c.deref.result.now c.deref-2.result.now c.deref.ensures.value c.deref-2.ensures.value c.requires c.in-Ok.ensures.are c.in-Ok-scaled_table.ensures.scaled c.in-Ok-scaled_right.ensures.scaled

pub returns-clause-systems : goal.returns-clause-systems
returns-clause-systems g c =
    carries c.args.table.now.size _ _ _
    (all_working c.args.table.now c.in-Ok-scaled_table.a c.args.right.now c.in-Ok-scaled_right.d.items c.in-Ok.e.items c.deref.result.now c.deref-2.result.now c.deref.ensures.value c.deref-2.ensures.value c.requires c.in-Ok.ensures.are c.in-Ok-scaled_table.ensures.scaled c.in-Ok-scaled_right.ensures.scaled)
