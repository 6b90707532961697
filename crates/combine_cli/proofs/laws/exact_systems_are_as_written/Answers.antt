use Rattle.combine_cli.proofs.WorkedLaws.{some_exact, matrix_law, vector_law, weighted_matrix_law, weighted_vector_law}
use Rattle.combine_cli.proofs.laws.exact_systems_are_as_written.Goals as goal

pub returns-clause-some : goal.returns-clause-some
returns-clause-some c = some_exact

pub returns-clause-matrix : goal.returns-clause-matrix
returns-clause-matrix c = matrix_law

pub returns-clause-vector : goal.returns-clause-vector
returns-clause-vector c = vector_law

pub returns-clause-weighted_matrix : goal.returns-clause-weighted_matrix
returns-clause-weighted_matrix c = weighted_matrix_law

pub returns-clause-weighted_vector : goal.returns-clause-weighted_vector
returns-clause-weighted_vector c = weighted_vector_law
