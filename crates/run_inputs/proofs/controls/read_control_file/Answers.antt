use Rattle.std.proofs.lemmas.Result.{err_from_is_err_and}
use Rattle.control_doc.specs.Views.{control_view}
use Rattle.run_inputs.specs.Views.{combined_files}
use Rattle.run_inputs.proofs.Tested.{file_refused, given_by_text, refused_by_text}
use Rattle.run_inputs.proofs.controls.read_control_file.Goals as goal

pub returns-in_err-text-clause-refused : goal.returns-in_err-text-clause-refused
returns-in_err-text-clause-refused g c = λ tells.
    let p = err_from_is_err_and c.from_residual.result c.from_residual.ensures.1 in
    rw (p.1, p.2) (λ a b. file_refused (combined_files c.args.names.now) (g.D.Desk.content c.args.desk.now).files _ (c.in_err-text.ensures.refused tells a b))

pub returns-clause-control : goal.returns-clause-control
returns-clause-control g c = λ tells.
    given_by_text (combined_files c.args.names.now) (g.D.Desk.content c.args.desk.now).files c.in_ok-text.text.items control_view c.run_said.result (c.in_ok-text.ensures.text tells)
    (rw c.deref.ensures.value at c.run_said.ensures.control)

pub returns-clause-refused : goal.returns-clause-refused
returns-clause-refused g c = λ tells.
    refused_by_text (combined_files c.args.names.now) (g.D.Desk.content c.args.desk.now).files c.in_ok-text.text.items c.run_said.result (c.in_ok-text.ensures.text tells) (rw c.deref.ensures.value at c.run_said.ensures.refused)
