use Rattle.std.proofs.Common.{◌∙◌, sym}
use Rattle.control_doc.proofs.Shorts.{not_short, no_decimal}
use Rattle.control_doc.proofs.decimals.decimal_of.Goals as goal

pub returns-else-is_positive_and_short-clause-none : goal.returns-else-is_positive_and_short-clause-none
returns-else-is_positive_and_short-clause-none c = not_short c.args.text.now c.in-Ok.d c.in-Ok.ensures.only (sym c.is_positive_and_short.ensures ∙ c.if-is_positive_and_short.false)

pub returns-in-Err-clause-none : goal.returns-in-Err-clause-none
returns-in-Err-clause-none c = no_decimal c.args.text.now _ c.in-Err.ensures.only
