use Rattle.recover_solution.proofs.ExistLaws.{sigmas_constrain, multiples_constrain, systems_are_freed, multiples_are_freed}
use Rattle.recover_solution.proofs.systems_are_freed.Goals as goal

pub returns-clause-constraints : goal.returns-clause-constraints
returns-clause-constraints c = sigmas_constrain

pub returns-clause-multiples : goal.returns-clause-multiples
returns-clause-multiples c = multiples_constrain

pub returns-clause-systems : goal.returns-clause-systems
returns-clause-systems c = systems_are_freed

pub returns-clause-freed_multiples : goal.returns-clause-freed_multiples
returns-clause-freed_multiples c = multiples_are_freed
