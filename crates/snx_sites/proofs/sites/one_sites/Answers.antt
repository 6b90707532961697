use Rattle.snx_sites.proofs.Alone.{sites_are_one}
use Rattle.snx_sites.proofs.sites.one_sites.Goals as goal

pub returns : goal.returns
returns c = sites_are_one
