use Rattle.std.proofs.Common.{◌≤◌, Bor, map, length, ap, arith}
use Rattle.std.proofs.lemmas.List.{length-map}
use Rattle.control_doc.specs.Views.{plan_view}
use Rattle.neq_stack.specs.Neqs.{IsSound, neq_view}
use Rattle.neq_stack.specs.declared.Neq.{Neq}
use Rattle.combine_cli.specs.Combination.{group_of}
use Rattle.combine_cli.specs.Parts.{part_view}
use Rattle.combine_cli.proofs.GroupStacks.{members_all, members_agree, members_few}
use Rattle.combine_cli.proofs.StackBounds.{group_fits}
use Rattle.combine_cli.proofs.stacking.stack_of_group.Goals as goal

pub stack_all-requires : goal.stack_all-requires
stack_all-requires c =
    let parts = map part_view c.args.parts.now in
    let group = group_of (plan_view c.args.plan.now) in
    let neqs = c.in_ok-neqs.neqs.items in
    let as_many = length-map neqs (λ (neq : Bor (Neq 16)). neq_view neq.now) in
    let few : length neqs ≤ 64 = omega (arith, length-map c.args.parts.now part_view, members_few parts group, as_many, ap length c.in_ok-neqs.ensures) in
    rw (c.deref.ensures.value, c.in_ok-neqs.ensures)
    (omega arith, (members_all parts group IsSound c.requires.sound, (members_agree parts group c.requires.agree, group_fits parts group (length neqs) c.requires.modest few)))

pub returns-in-Ok-clause-stacked : goal.returns-in-Ok-clause-stacked
returns-in-Ok-clause-stacked c = rw (c.deref.ensures.value, c.in_ok-neqs.ensures) at c.in-Ok.ensures.stacked
