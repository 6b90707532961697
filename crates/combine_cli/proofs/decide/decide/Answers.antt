use Rattle.std.proofs.Common.{map, string_bytes, refl}
use Rattle.std.proofs.lemmas.Result.{err_from_is_err_and}
use Rattle.desk_io.specs.Outputs.{named_text}
use Rattle.control_doc.specs.Views.{control_view}
use Rattle.run_inputs.specs.Views.{command_view}
use Rattle.combine_cli.specs.Plan.{texts_view}
use Rattle.combine_cli.proofs.Verdicts.{by_control}
use Rattle.combine_cli.proofs.Decisions.{planned_of, combining_refused}
use Rattle.combine_cli.proofs.decide.decide.Goals as goal

pub returns-in_err-control-clause-refused : goal.returns-in_err-control-clause-refused
returns-in_err-control-clause-refused g c = λ tells.
    let p = err_from_is_err_and c.from_residual-in_err-control.result c.from_residual-in_err-control.ensures.1 in
    rw (p.1, p.2) (λ a b.
    by_control (map string_bytes c.args.words.now) (g.D.Desk.content c.args.desk.now).files (command_view c.in_ok-command.command) c.in_ok-command.ensures.command _
    (c.in_err-control.ensures.refused tells a b))

pub returns-in_err-texts-clause-refused : goal.returns-in_err-texts-clause-refused
returns-in_err-texts-clause-refused g c = λ tells.
    let p = err_from_is_err_and c.from_residual-in_err-texts.result c.from_residual-in_err-texts.ensures.1 in
    rw (p.1, p.2) (λ a b.
    combining_refused (map string_bytes c.args.words.now) _ _ (command_view c.in_ok-command.command) (control_view c.in_ok-control.control) c.in_ok-command.ensures.command
    (c.in_ok-control.ensures.control tells) (c.in_ok-control.ensures.keeps tells) _ (rw c.writes_out.ensures at (c.in_err-texts.ensures.refused tells a b)))

pub returns-in_err-outputs-clause-refused : goal.returns-in_err-outputs-clause-refused
returns-in_err-outputs-clause-refused g c = λ tells.
    let p = err_from_is_err_and c.from_residual-in_err-outputs.result c.from_residual-in_err-outputs.ensures.1 in
    rw (p.1, p.2) (λ a b. absurd (a refl))

pub returns-clause-planned : goal.returns-clause-planned
returns-clause-planned g c = λ tells.
    planned_of (map string_bytes c.args.words.now) _ _ (command_view c.in_ok-command.command) (control_view c.in_ok-control.control) c.in_ok-command.ensures.command
    (c.in_ok-control.ensures.control tells) (c.in_ok-control.ensures.keeps tells) (texts_view c.in_ok-texts.texts) (map named_text c.in_ok-outputs.outputs.items)
    (rw c.writes_out.ensures at (c.in_ok-texts.ensures.texts tells)) c.in_ok-outputs.ensures
