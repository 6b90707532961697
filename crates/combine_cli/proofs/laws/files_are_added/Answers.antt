use Rattle.combine_cli.proofs.WorkedLaws.{entries_added, rights_added}
use Rattle.combine_cli.proofs.laws.files_are_added.Goals as goal

pub returns-clause-matrix : goal.returns-clause-matrix
returns-clause-matrix c = entries_added

pub returns-clause-vector : goal.returns-clause-vector
returns-clause-vector c = rights_added
