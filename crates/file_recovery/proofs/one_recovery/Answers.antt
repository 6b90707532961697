use Rattle.file_recovery.proofs.RecoveryLaws.{recovered_is_one}
use Rattle.file_recovery.proofs.one_recovery.Goals as goal

pub returns : goal.returns
returns c = recovered_is_one
