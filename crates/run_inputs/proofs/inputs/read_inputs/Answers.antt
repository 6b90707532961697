use Rattle.std.proofs.Common.{◌∙◌, Bor, map, length, sym, ap, subst, arith}
use Rattle.std.proofs.lemmas.List.{length-map}
use Rattle.std.proofs.lemmas.List.Sorted.{length_permutation}
use Rattle.std.proofs.lemmas.Result.{err_from_is_err_and}
use Rattle.control_doc.specs.declared.plans.FilePlan.{FilePlan}
use Rattle.control_doc.specs.Views.{plan_view}
use Rattle.run_inputs.specs.Inputs.{AreInNameOrder}
use Rattle.run_inputs.proofs.inputs.read_inputs.Goals as goal

pub returns-in_err-inputs-clause-refused : goal.returns-in_err-inputs-clause-refused
returns-in_err-inputs-clause-refused g c = λ tells.
    let p = err_from_is_err_and c.from_residual-in_err-inputs.result c.from_residual-in_err-inputs.ensures.1 in
    rw (p.1, p.2) (λ a b.
    (map (λ plan. plan_view plan.now) c.in_ok-plans.plans.items, rw c.deref.ensures.value at c.in_ok-plans.ensures, rw c.deref-2.ensures.value at (c.in_err-inputs.ensures.refused tells a b)))

pub returns-clause-plans : goal.returns-clause-plans
returns-clause-plans g c =
    subst (AreInNameOrder (map plan_view c.args.control.now.files.items)) (sym (c.in_ok-inputs.ensures.plans ∙ ap (map (λ (plan : Bor FilePlan). plan_view plan.now)) c.deref-2.ensures.value))
    (rw c.deref.ensures.value at c.in_ok-plans.ensures)

pub returns-clause-count : goal.returns-clause-count
returns-clause-count g c =
    let files = c.args.control.now.files.items in
    let plans = c.in_ok-plans.plans.items in
    let order = rw c.deref.ensures.value at c.in_ok-plans.ensures in
    let same = length_permutation (map plan_view files) (map (λ plan. plan_view plan.now) plans) order.same in
    omega (arith, c.in_ok-inputs.ensures.count, ap length c.deref-2.ensures.value, length-map plans (λ plan. plan_view plan.now), length-map files plan_view, same)
