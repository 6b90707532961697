use Rattle.file_recovery.proofs.RecoveryLaws.{parameters_are}
use Rattle.file_recovery.proofs.recovered_parameters.Goals as goal

pub returns : goal.returns
returns c = parameters_are
