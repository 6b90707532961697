use Rattle.run_inputs.proofs.Alone.{words_are_one, control_is_one, inputs_are_one}
use Rattle.run_inputs.proofs.laws.one_reading.Goals as goal

pub returns-clause-command : goal.returns-clause-command
returns-clause-command c = words_are_one

pub returns-clause-control : goal.returns-clause-control
returns-clause-control c = control_is_one

pub returns-clause-inputs : goal.returns-clause-inputs
returns-clause-inputs c = inputs_are_one
