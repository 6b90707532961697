use Rattle.recover_solution.proofs.Alone.{parameters_are_one, one_sigma_table, freed_is_one}
use Rattle.recover_solution.proofs.one_recovery.Goals as goal

pub returns-clause-parameters : goal.returns-clause-parameters
returns-clause-parameters c = parameters_are_one

pub returns-clause-sigmas : goal.returns-clause-sigmas
returns-clause-sigmas c = one_sigma_table

pub returns-clause-freed : goal.returns-clause-freed
returns-clause-freed c = freed_is_one
