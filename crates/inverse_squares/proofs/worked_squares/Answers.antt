use Rattle.inverse_squares.proofs.WorkedLaws.{worked}
use Rattle.inverse_squares.proofs.worked_squares.Goals as goal

pub returns : goal.returns
returns c = worked
