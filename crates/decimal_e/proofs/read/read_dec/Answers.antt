use Rattle.std.proofs.Common.{Err}
use Rattle.decimal_e.specs.Cuts.{numeral_of}
use Rattle.decimal_e.proofs.Outcomes.{one_answer_of, answered}
use Rattle.decimal_e.proofs.read.read_dec.Goals as goal

pub returns-in-Ok-clause-only : goal.returns-in-Ok-clause-only
returns-in-Ok-clause-only c = λ other right. one_answer_of c.args.text.now other c.numeral_value.result right (answered c.args.text.now (numeral_of c.in-Ok.numeral) c.numeral_value.result c.in-Ok.ensures c.numeral_value.ensures)

pub returns-in-Err-clause-only : goal.returns-in-Err-clause-only
returns-in-Err-clause-only c = λ other right. one_answer_of c.args.text.now other (Err c.in-Err.fault) right c.in-Err.ensures
