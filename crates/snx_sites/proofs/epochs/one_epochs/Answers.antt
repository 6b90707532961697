use Rattle.snx_sites.proofs.Alone.{epochs_are_one}
use Rattle.snx_sites.proofs.epochs.one_epochs.Goals as goal

pub returns : goal.returns
returns c = epochs_are_one
