use Rattle.recover_neq.proofs.LawExact.{multiples_are_exact}
use Rattle.recover_neq.proofs.exact_multiples.Goals as goal

pub returns : goal.returns
returns c = multiples_are_exact
