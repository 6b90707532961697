use Rattle.std.proofs.Common.{◌≡◌, ◌≤◌, ◌++◌, ◌+◌, ◌-◌, ◌∙◌, ◌∷◌, [], Bor, List, Ok, map, take, sym, ap, subst, arith, rules}
use Rattle.std.proofs.lemmas.List.{map-append, take_all}
use Rattle.std.proofs.lemmas.List.Elements.{All-push}
use Rattle.std.proofs.lemmas.Result.{err_from_is_err_and}
use Rattle.snx_blocks.specs.Documents.{IsValid}
use Rattle.snx_blocks.specs.Views.{doc_view}
use Rattle.control_doc.specs.Plain.{PlainPlan}
use Rattle.control_doc.specs.declared.plans.FilePlan.{FilePlan}
use Rattle.control_doc.specs.Views.{plan_view}
use Rattle.run_inputs.specs.Files.{total_limit}
use Rattle.run_inputs.specs.Inputs.{PlainInput, AreInputs}
use Rattle.run_inputs.specs.Views.{input_view}
use Rattle.run_inputs.specs.declared.inputs.Input.{Input}
use Rattle.run_inputs.proofs.Turns.{bytes_of, left_after, upto_more, one_more, one_stops}
use Rattle.run_inputs.proofs.inputs.read_in_turn.Goals as goal

-- what the control says of a file
abbrev plan_of : Input → PlainPlan
plan_of input = (input_view input).plan

pub returns-clause-plans : goal.returns-clause-plans
returns-clause-plans g c =
    c.loop-plan.invariant.plans ∙ ap (map (λ (plan : Bor FilePlan). plan_view plan.now)) (take_all c.loop-plan.plan-index c.args.plans.now (omega arith))

pub returns-in_err-input-clause-refused : goal.returns-in_err-input-clause-refused
returns-in_err-input-clause-refused g c = λ tells.
    let i = c.loop-plan.invariant in
    let p = err_from_is_err_and c.from_residual.result c.from_residual.ensures.1 in
    rw (p.1, p.2) (λ a b.
    one_stops (λ (plan : Bor FilePlan). plan_view plan.now) (g.D.Desk.content c.args.desk.now).files c.args.plans.now c.loop-plan.plan-index c.plan-item.result c.limit_of.result c.loop-plan.left
    (map input_view c.loop-plan.inputs.items) _ (omega arith) c.plan-item.is c.limit_of.ensures.value i.left (i.so_far tells) (rw (i.keeps tells).files at (c.in_err-input.ensures.refused tells a b)))

pub loop-plan-preserved : goal.loop-plan-preserved
loop-plan-preserved g c =
    let i = c.loop-plan.invariant in
    let before = map input_view c.loop-plan.inputs.items in
    let input = input_view c.in_ok-input.input in
    let added : map input_view c.push.new.self.items ≡ before ++ (input ∷ []) = ap (map input_view) c.in-Ok.ensures.items ∙ map-append input_view c.loop-plan.inputs.items (c.in_ok-input.input ∷ []) in
    let short : c.in_ok-input.input.size ≤ c.loop-plan.left = omega (arith, c.in_ok-input.ensures.short, c.limit_of.ensures.value) in
    record {
      left = subst (λ (l : List PlainInput). (c.loop-plan.left - c.in_ok-input.input.size) + bytes_of l ≡ total_limit) (sym added) (left_after c.loop-plan.left before input short i.left);
      plans =
          ap (map plan_of) c.in-Ok.ensures.items ∙ map-append plan_of c.loop-plan.inputs.items (c.in_ok-input.input ∷ []) ∙ ap (λ l. l ++ (plan_of c.in_ok-input.input ∷ [])) i.plans
          ∙ ap (λ p. map (λ (plan : Bor FilePlan). plan_view plan.now) (take c.loop-plan.plan-index c.args.plans.now) ++ (p ∷ [])) c.in_ok-input.ensures.plan
          ∙ upto_more (λ (plan : Bor FilePlan). plan_view plan.now) c.args.plans.now c.loop-plan.plan-index c.plan-item.result (omega arith) c.plan-item.is;
      count = search rules;
      valid = rw c.in-Ok.ensures.items (All-push (λ (input : Input). IsValid (doc_view input.doc)) c.loop-plan.inputs.items c.in_ok-input.input i.valid c.in_ok-input.ensures.valid);
      keeps = search rules;
      faults = search rules;
      so_far = λ tells.
          subst (λ (l : List PlainInput). AreInputs (g.D.Desk.content c.args.desk.now).files (map (λ (plan : Bor FilePlan). plan_view plan.now) (take (c.loop-plan.plan-index + 1) c.args.plans.now)) (Ok l)) (sym added)
          (one_more (λ (plan : Bor FilePlan). plan_view plan.now) (g.D.Desk.content c.args.desk.now).files c.args.plans.now c.loop-plan.plan-index c.plan-item.result c.limit_of.result c.loop-plan.left before input
          (omega arith) c.plan-item.is c.limit_of.ensures.value i.left (i.so_far tells) (rw (i.keeps tells).files at (c.in_ok-input.ensures.input tells)));
    }
