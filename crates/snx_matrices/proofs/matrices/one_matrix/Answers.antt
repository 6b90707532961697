use Rattle.snx_matrices.proofs.Single.{matrix_is_one}
use Rattle.snx_matrices.proofs.matrices.one_matrix.Goals as goal

pub returns : goal.returns
returns c = matrix_is_one
