use Rattle.file_recovery.proofs.RecoveryLaws.{multiples_are_exact}
use Rattle.file_recovery.proofs.exact_multiples.Goals as goal

pub returns : goal.returns
returns c = multiples_are_exact
