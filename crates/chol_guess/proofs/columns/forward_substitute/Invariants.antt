use Rattle.whole_numbers.specs.Squares.{square_at}
use Rattle.whole_numbers.specs.Lists.{at}
use Rattle.chol_guess.specs.Columns.{IsForwardSolution}
use Rattle.chol_guess.proofs.columns.forward_substitute.Given as goal

abbrev pub invariant-loop-i : goal.invariant-loop-i
invariant-loop-i l = IsForwardSolution l.i (square_at l.f) l.g l.c (at l.u)
