use Rattle.decimal_e.proofs.SameValues.{product_one}
use Rattle.decimal_e.proofs.product.one_times.Goals as goal

pub returns : goal.returns
returns c = product_one
