use Rattle.std.proofs.Common.{refl}
use Rattle.std.specs.Fmt.{digits}
use Rattle.combine_cli.proofs.Verdicts.{no_words, no_file}
use Rattle.combine_cli.proofs.laws.refusals_are_told.Goals as goal

pub returns-clause-no_words : goal.returns-clause-no_words
returns-clause-no_words c = no_words

pub returns-clause-no_file : goal.returns-clause-no_file
returns-clause-no_file c = no_file

pub returns-clause-line : goal.returns-clause-line
unfolding digits
returns-clause-line c = refl

pub returns-clause-frame : goal.returns-clause-frame
unfolding digits
returns-clause-frame c = refl

pub returns-clause-many : goal.returns-clause-many
unfolding digits
returns-clause-many c = refl
