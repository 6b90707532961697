use Rattle.correlations.proofs.Alone.{one_covariances}
use Rattle.correlations.proofs.covariances.one_covariances.Goals as goal

pub returns : goal.returns
returns c = one_covariances
