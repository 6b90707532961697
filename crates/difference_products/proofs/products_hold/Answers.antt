use Rattle.difference_products.proofs.Alone.{one_product}
use Rattle.difference_products.proofs.HoldLaws.{product_holds}
use Rattle.difference_products.proofs.products_hold.Goals as goal

pub returns : goal.returns
returns c = record { one = one_product; holds = product_holds }
