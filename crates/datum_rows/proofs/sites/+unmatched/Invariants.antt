use Rattle.std.proofs.Common.{length}
use Rattle.datum_rows.proofs.sites.+unmatched.Given as goal

abbrev pub decreases-unmatched : goal.decreases-unmatched
decreases-unmatched l = length l.sites.now
