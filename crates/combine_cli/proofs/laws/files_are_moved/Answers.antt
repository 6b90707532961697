use Rattle.combine_cli.proofs.WorkedLaws.{entries_moved, rights_moved, rights_referred}
use Rattle.combine_cli.proofs.laws.files_are_moved.Goals as goal

pub returns-clause-matrix : goal.returns-clause-matrix
returns-clause-matrix c = entries_moved

pub returns-clause-vector : goal.returns-clause-vector
returns-clause-vector c = rights_moved

pub returns-clause-referred : goal.returns-clause-referred
returns-clause-referred c = rights_referred
