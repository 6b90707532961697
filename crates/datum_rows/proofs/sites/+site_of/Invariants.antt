use Rattle.std.proofs.Common.{length}
use Rattle.datum_rows.proofs.sites.+site_of.Given as goal

abbrev pub decreases-site_of : goal.decreases-site_of
decreases-site_of l = length l.sites.now
