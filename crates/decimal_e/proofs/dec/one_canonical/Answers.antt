use Rattle.decimal_e.proofs.Values.{one_canonical_of}
use Rattle.decimal_e.proofs.dec.one_canonical.Goals as goal

pub returns : goal.returns
returns c = one_canonical_of
