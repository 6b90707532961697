use Rattle.std.proofs.Common.{map}
use Rattle.std.proofs.lemmas.Result.{err_from_is_err_and}
use Rattle.control_doc.specs.Views.{control_view}
use Rattle.run_inputs.specs.Views.{input_view}
use Rattle.run_inputs.specs.declared.inputs.Input.{Input}
use Rattle.combine_cli.proofs.Decisions.{weights_kept, texts_known, texts_refused, inputs_refused}
use Rattle.combine_cli.proofs.decide.texts_of.Goals as goal

pub combine_core-requires-clause-weights : goal.combine_core-requires-clause-weights
combine_core-requires-clause-weights g c = λ lives within.
    weights_kept (λ (input : Input). (input_view input).plan) (control_view c.args.control.now).files c.in_ok-inputs.inputs.items c.requires.weights c.in_ok-inputs.ensures.plans

pub returns-in_err-inputs-clause-refused : goal.returns-in_err-inputs-clause-refused
returns-in_err-inputs-clause-refused g c = λ tells.
    let p = err_from_is_err_and c.from_residual.result c.from_residual.ensures.1 in
    rw (p.1, p.2) (λ a b. inputs_refused c.args.whole (control_view c.args.control.now) _ _ (c.in_err-inputs.ensures.refused tells a b))

pub returns-clause-texts : goal.returns-clause-texts
returns-clause-texts g c = λ tells.
    texts_known c.args.whole (control_view c.args.control.now) _ (map input_view c.in_ok-inputs.inputs.items) (c.in_ok-inputs.ensures.inputs tells) c.combine_core.result c.combine_core.ensures.combined
    c.combine_core.ensures.certified

pub returns-clause-refused : goal.returns-clause-refused
returns-clause-refused g c = λ tells.
    texts_refused c.args.whole (control_view c.args.control.now) _ (map input_view c.in_ok-inputs.inputs.items) (c.in_ok-inputs.ensures.inputs tells) c.combine_core.result c.combine_core.ensures.refused
