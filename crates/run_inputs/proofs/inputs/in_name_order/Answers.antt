use Rattle.std.proofs.Common.{◌∙◌, ap, arith, rules, Bor, map}
use Rattle.std.proofs.lemmas.List.{take_all}
use Rattle.control_doc.specs.declared.plans.FilePlan.{FilePlan}
use Rattle.control_doc.specs.Views.{plan_view}
use Rattle.run_inputs.proofs.NameOrder.{in_order}
use Rattle.run_inputs.proofs.inputs.in_name_order.Goals as goal

pub returns : goal.returns
returns c =
    in_order (λ (plan : Bor FilePlan). plan_view plan.now) (map plan_view c.args.files.now) c.loop-plan.plans.items c.sort_unstable_by.new.self.items
    (c.loop-plan.invariant ∙ ap (map plan_view) (take_all c.loop-plan.plan-index c.args.files.now (omega arith))) c.requires c.sort_unstable_by.ensures.permutation c.sort_unstable_by.ensures.sorted (λ a r f' k. search rules)
