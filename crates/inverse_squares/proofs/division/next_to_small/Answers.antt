use Rattle.std.proofs.Common.{ap, Some, ◌∙◌, arith}
use Rattle.std.proofs.lemmas.Int.{ints}
use Rattle.inverse_squares.proofs.QuotientLaws.{quotient_below, quotient_above}
use Rattle.inverse_squares.proofs.division.next_to_small.Goals as goal

pub returns-then-h-lt0 : goal.returns-then-h-lt0
returns-then-h-lt0 c = λ den small. c.between.ensures ∙ ap Some (quotient_below c.args.h den (omega (arith, ints)) small)

pub returns-else-h-eq0 : goal.returns-else-h-eq0
returns-else-h-eq0 c = λ den small. c.between-else-h-eq0.ensures ∙ ap Some (quotient_above c.args.h den (omega (arith, ints)) small)
