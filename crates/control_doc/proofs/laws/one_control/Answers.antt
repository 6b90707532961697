use Rattle.control_doc.proofs.OneAnswer.{one_control_of}
use Rattle.control_doc.proofs.laws.one_control.Goals as goal

pub returns : goal.returns
returns c = one_control_of
