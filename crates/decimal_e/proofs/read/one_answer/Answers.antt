use Rattle.decimal_e.proofs.Outcomes.{one_answer_of}
use Rattle.decimal_e.proofs.read.one_answer.Goals as goal

pub returns : goal.returns
returns c = one_answer_of
