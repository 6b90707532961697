use Rattle.std.proofs.Common.{map, take, Ok}
use Rattle.control_doc.specs.Views.{plan_view}
use Rattle.neq_stack.specs.Neqs.{neq_view}
use Rattle.combine_cli.specs.Combination.{group_of, AreGroupStacks}
use Rattle.combine_cli.specs.Parts.{part_view}
use Rattle.combine_cli.proofs.stacking.stacks_of_groups.Given as goal

abbrev pub invariant-loop-plan : goal.invariant-loop-plan
invariant-loop-plan l = AreGroupStacks (map part_view l.parts) (map (λ plan. group_of (plan_view plan.now)) (take l.plan-index l.plans)) (Ok (map neq_view l.stacks.items))
