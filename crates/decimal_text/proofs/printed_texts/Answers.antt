use Rattle.decimal_text.proofs.Laws.{one_printed, prints_text, leading_digit, exponent_within, has_length}
use Rattle.decimal_text.proofs.printed_texts.Goals as goal

pub returns-clause-one : goal.returns-clause-one
returns-clause-one c = one_printed

pub returns-clause-text : goal.returns-clause-text
returns-clause-text c = prints_text

pub returns-clause-leading : goal.returns-clause-leading
returns-clause-leading c = leading_digit

pub returns-clause-length : goal.returns-clause-length
returns-clause-length c = has_length

pub returns-clause-exponent : goal.returns-clause-exponent
returns-clause-exponent c = exponent_within
