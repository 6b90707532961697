use Rattle.decimal_e.proofs.SameValues.{same_interval, same_means}
use Rattle.decimal_e.proofs.product.same_values.Goals as goal

pub returns-clause-interval : goal.returns-clause-interval
returns-clause-interval c = same_interval

pub returns-clause-fraction : goal.returns-clause-fraction
returns-clause-fraction c = same_means
