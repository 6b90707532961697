use Rattle.std.proofs.Common.{◌≡◌, map, take}
use Rattle.control_doc.specs.Views.{plan_view}
use Rattle.neq_stack.specs.Neqs.{neq_view}
use Rattle.combine_cli.specs.Combination.{group_of, members}
use Rattle.combine_cli.specs.Parts.{part_view}
use Rattle.combine_cli.proofs.groups.members_of.Given as goal

abbrev pub invariant-loop-part : goal.invariant-loop-part
invariant-loop-part l = map (λ neq. neq_view neq.now) l.neqs.items ≡ members (map part_view (take l.part-index l.parts)) (group_of (plan_view l.plan))
