use Rattle.site_merge.proofs.Alone.{one_merge}
use Rattle.site_merge.proofs.merges_hold.Goals as goal

pub returns : goal.returns
returns c = one_merge
