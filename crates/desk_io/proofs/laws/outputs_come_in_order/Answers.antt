use Rattle.desk_io.proofs.OutputLists.{one_is_a_file, second_is_not_whole}
use Rattle.desk_io.proofs.laws.outputs_come_in_order.Goals as goal

pub returns-clause-one : goal.returns-clause-one
returns-clause-one c = one_is_a_file

pub returns-clause-two : goal.returns-clause-two
returns-clause-two c = second_is_not_whole
