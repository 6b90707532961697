use Rattle.std.proofs.Common.{◌∙◌, sym}
use Rattle.snx_rows.proofs.Chain.{deviation_read, deviation_unread}
use Rattle.snx_rows.proofs.steps.deviation_in.Goals as goal

pub returns-in-Ok : goal.returns-in-Ok
returns-in-Ok c =
    deviation_read c.args.text.now c.in-Ok.deviation c.not_negative.result (sym c.is_empty.ensures ∙ c.if-is_empty.false) c.in-Ok.ensures c.not_negative.ensures

pub returns-in-Err : goal.returns-in-Err
returns-in-Err c = deviation_unread c.args.text.now c.in-Err.cause (sym c.is_empty.ensures ∙ c.if-is_empty.false) c.in-Err.ensures
