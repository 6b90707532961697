use Rattle.decimal_e.proofs.Pieces.{one_numeral_of}
use Rattle.decimal_e.proofs.read.one_numeral.Goals as goal

pub returns : goal.returns
returns c = one_numeral_of
