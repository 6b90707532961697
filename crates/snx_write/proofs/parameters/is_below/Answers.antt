use Rattle.std.proofs.Common.{unsigned_abs}
use Rattle.snx_write.proofs.Tiny.{below_greater}
use Rattle.snx_write.proofs.parameters.is_below.Goals as goal

pub returns-else-k-lt36 : goal.returns-else-k-lt36
returns-else-k-lt36 c = below_greater (unsigned_abs c.args.mant) c.args.k c.requires c.if-k-lt36.false
