use Rattle.recover_neq.proofs.LawExact.{exact_exists}
use Rattle.recover_neq.proofs.exact_exists.Goals as goal

pub returns : goal.returns
returns c = exact_exists
