use Rattle.std.proofs.Common.{◌<◌, Bor, map, length, arith}
use Rattle.std.proofs.lemmas.List.{map-append}
use Rattle.std.proofs.lemmas.Result.{err_from_is_err_and}
use Rattle.control_doc.specs.Views.{plan_view}
use Rattle.control_doc.specs.declared.plans.FilePlan.{FilePlan}
use Rattle.neq_stack.specs.Neqs.{neq_view}
use Rattle.combine_cli.specs.Combination.{Group, group_of}
use Rattle.combine_cli.specs.Parts.{part_view}
use Rattle.combine_cli.proofs.GroupStacks.{one_more, one_stops}
use Rattle.combine_cli.proofs.stacking.stacks_of_groups.Goals as goal

abbrev group_at : Bor FilePlan → Group
group_at plan = group_of (plan_view plan.now)

pub returns-in_err-stack-clause-refused : goal.returns-in_err-stack-clause-refused
returns-in_err-stack-clause-refused c =
    let within : c.loop-plan.plan-index < length c.args.plans.now = omega arith in
    let p = err_from_is_err_and c.from_residual.result c.from_residual.ensures.1 in
    rw (p.1, p.2) (λ a b.
    one_stops group_at (map part_view c.args.parts.now) c.args.plans.now c.loop-plan.plan-index c.plan-item.result (map neq_view c.loop-plan.stacks.items) within c.plan-item.is c.loop-plan.invariant _
    (c.in_err-stack.ensures.refused a b))

pub loop-plan-preserved : goal.loop-plan-preserved
loop-plan-preserved c =
    let within : c.loop-plan.plan-index < length c.args.plans.now = omega arith in
    rw (c.in-Ok.ensures.items, map-append)
    (one_more group_at (map part_view c.args.parts.now) c.args.plans.now c.loop-plan.plan-index c.plan-item.result (map neq_view c.loop-plan.stacks.items) within c.plan-item.is c.loop-plan.invariant
    (neq_view c.in_ok-stack.stack) c.in_ok-stack.ensures.stacked)
