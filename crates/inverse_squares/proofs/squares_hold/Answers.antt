use Rattle.inverse_squares.proofs.Alone.{one_over_square, over_square_exists}
use Rattle.inverse_squares.proofs.HoldLaws.{over_square_holds}
use Rattle.inverse_squares.proofs.squares_hold.Goals as goal

pub returns-clause-one : goal.returns-clause-one
returns-clause-one c = one_over_square

pub returns-clause-exists : goal.returns-clause-exists
returns-clause-exists c = over_square_exists

pub returns-clause-holds : goal.returns-clause-holds
returns-clause-holds c = over_square_holds
