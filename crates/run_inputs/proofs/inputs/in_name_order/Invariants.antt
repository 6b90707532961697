use Rattle.std.proofs.Common.{◌≡◌, map, take}
use Rattle.control_doc.specs.Views.{plan_view}
use Rattle.run_inputs.proofs.inputs.in_name_order.Given as goal

abbrev pub invariant-loop-plan : goal.invariant-loop-plan
invariant-loop-plan l = map (λ plan. plan_view plan.now) l.plans.items ≡ map plan_view (take l.plan-index l.files)
