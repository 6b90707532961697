use Rattle.inv_enclose.proofs.Alone.{inverse_is_one}
use Rattle.inv_enclose.proofs.inverses.one_inverse.Goals as goal

pub returns : goal.returns
returns c = inverse_is_one
