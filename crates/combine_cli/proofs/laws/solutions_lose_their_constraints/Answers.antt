use Rattle.combine_cli.proofs.WorkedSolution.{freed_matrix, freed_vector}
use Rattle.combine_cli.proofs.laws.solutions_lose_their_constraints.Goals as goal

pub returns-clause-matrix : goal.returns-clause-matrix
returns-clause-matrix c = freed_matrix

pub returns-clause-vector : goal.returns-clause-vector
returns-clause-vector c = freed_vector
