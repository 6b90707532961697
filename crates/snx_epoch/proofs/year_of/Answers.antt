use Rattle.snx_epoch.proofs.Times.{time_digits}
use Rattle.snx_epoch.proofs.year_of.Goals as goal

pub digit_at-requires-clause-digit : goal.digit_at-requires-clause-digit
digit_at-requires-clause-digit c = (time_digits c.args.text.now c.requires).d0

pub digit_at-requires-2-clause-digit : goal.digit_at-requires-2-clause-digit
digit_at-requires-2-clause-digit c = (time_digits c.args.text.now c.requires).d1
