use Rattle.std.proofs.lemmas.Result.{err_from_is_err_and}
use Rattle.control_doc.specs.Views.{control_view}
use Rattle.run_inputs.specs.Views.{combined_files}
use Rattle.run_inputs.proofs.Tested.{apart_refused, built_refused, run_given}
use Rattle.run_inputs.proofs.controls.run_said.Goals as goal

pub returns-in_err-kept_apart-clause-refused : goal.returns-in_err-kept_apart-clause-refused
returns-in_err-kept_apart-clause-refused c =
    let p = err_from_is_err_and c.from_residual-in_err-kept_apart.result c.from_residual-in_err-kept_apart.ensures.1 in
    rw (p.1, p.2) (λ a b. apart_refused (combined_files c.args.names.now) c.args.text.now (control_view c.in_ok-control.control) _ c.in_ok-control.ensures.control (rw c.deref.ensures.value at (c.in_err-kept_apart.ensures.refused a b)))

pub returns-in_err-all_built-clause-refused : goal.returns-in_err-all_built-clause-refused
returns-in_err-all_built-clause-refused c =
    let p = err_from_is_err_and c.from_residual-in_err-all_built.result c.from_residual-in_err-all_built.ensures.1 in
    rw (p.1, p.2) (λ a b.
    built_refused (combined_files c.args.names.now) c.args.text.now (control_view c.in_ok-control.control) _ c.in_ok-control.ensures.control (rw c.deref.ensures.value at c.in_ok-kept_apart.ensures.kept)
    (c.in_err-all_built.ensures.refused a b))

pub returns-clause-control : goal.returns-clause-control
returns-clause-control c =
    run_given (combined_files c.args.names.now) c.args.text.now (control_view c.in_ok-control.control) c.in_ok-control.ensures.control (rw c.deref.ensures.value at c.in_ok-kept_apart.ensures.kept) c.in_ok-all_built.ensures.built
