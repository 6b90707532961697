use Rattle.whole_numbers.specs.Squares.{square_at}
use Rattle.whole_numbers.specs.Lists.{at}
use Rattle.chol_guess.specs.Rows.{IsBackFrom}
use Rattle.chol_guess.proofs.columns.back_substitute.Given as goal

abbrev pub invariant-loop-i : goal.invariant-loop-i
invariant-loop-i l = IsBackFrom l.f.size l.i (square_at l.f) (at l.u) (at l.x)
