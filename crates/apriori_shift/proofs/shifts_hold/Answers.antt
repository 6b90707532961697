use Rattle.apriori_shift.proofs.Alone.{one_shift}
use Rattle.apriori_shift.proofs.CommonLaws.{one_common}
use Rattle.apriori_shift.proofs.HoldLaws.{shift_holds}
use Rattle.apriori_shift.proofs.MoveLaws.{systems_move, multiples_move}
use Rattle.apriori_shift.proofs.shifts_hold.Goals as goal

pub returns-clause-one_common : goal.returns-clause-one_common
returns-clause-one_common c = one_common

pub returns-clause-one_shift : goal.returns-clause-one_shift
returns-clause-one_shift c = one_shift

pub returns-clause-holds : goal.returns-clause-holds
returns-clause-holds c = shift_holds

pub returns-clause-moves : goal.returns-clause-moves
returns-clause-moves c = systems_move

pub returns-clause-multiples : goal.returns-clause-multiples
returns-clause-multiples c = multiples_move
