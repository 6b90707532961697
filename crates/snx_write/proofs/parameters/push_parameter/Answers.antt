use Rattle.std.proofs.Common.{◌∙◌, ap}
use Rattle.param_ids.specs.Labels.{label_text}
use Rattle.snx_write.specs.Combined.{constraint_code}
use Rattle.snx_write.proofs.Lines.{pushed_parameter}
use Rattle.snx_write.proofs.parameters.push_parameter.Goals as goal

pub returns : goal.returns
returns c =
    pushed_parameter c.args.out.now.items (label_text c.args.index c.args.id.now c.args.unit.now) _ _ c.args.numbers.now _ _ _ _ c.in_ok-push_label.ensures.ok c.in_ok-push_fields.ensures
    (c.constraint_code.ensures ∙ ap constraint_code c.is_held.ensures) c.in_ok-push_fields-2.ensures c.in_ok-push.ensures.items
