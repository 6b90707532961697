use Rattle.std.proofs.Common.{◌≡◌, map, take}
use Rattle.control_doc.specs.Views.{plan_view}
use Rattle.combine_cli.proofs.groups.first_of_groups.Given as goal

abbrev pub invariant-loop-part : goal.invariant-loop-part
invariant-loop-part l = map (λ plan. plan_view plan.now) l.plans.items ≡ map (λ part. plan_view part.plan.now) (take l.part-index l.parts)
