use Rattle.std.proofs.lemmas.Result.{err_from_is_err_and}
use Rattle.control_doc.specs.Views.{plan_view}
use Rattle.run_inputs.proofs.Turns.{file_refused, text_refused}
use Rattle.run_inputs.proofs.inputs.read_input.Goals as goal

pub returns-in_err-text-clause-refused : goal.returns-in_err-text-clause-refused
returns-in_err-text-clause-refused g c = λ tells.
    let p = err_from_is_err_and c.from_residual.result c.from_residual.ensures.1 in
    rw (p.1, p.2) (λ a b.
    file_refused c.args.limit (g.D.Desk.content c.args.desk.now).files (plan_view c.args.plan.now) _ (rw c.as_str.ensures.value at (c.in_err-text.ensures.refused tells a b)))

pub returns-in_err-doc-clause-refused : goal.returns-in_err-doc-clause-refused
returns-in_err-doc-clause-refused g c = λ tells.
    let p = err_from_is_err_and c.from_residual-in_err-doc.result c.from_residual-in_err-doc.ensures.1 in
    rw (p.1, p.2) (λ a b.
    text_refused c.args.limit (g.D.Desk.content c.args.desk.now).files (plan_view c.args.plan.now) c.in_ok-text.text.items _ (rw c.as_str.ensures.value at (c.in_ok-text.ensures.text tells))
    (rw (c.deref.ensures.value, c.as_str-2.ensures.value) at (c.in_err-doc.ensures.refused a b)))
