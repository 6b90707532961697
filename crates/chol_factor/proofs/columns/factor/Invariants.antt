use Rattle.std.proofs.Common.{◌≡◌, ◌^◌}
use Rattle.whole_numbers.specs.Lists.{AllAtMost}
use Rattle.whole_numbers.specs.Squares.{square_at}
use Rattle.chol_factor.specs.Factor.{HasColumns}
use Rattle.chol_factor.specs.Making.{IsWaiting}
use Rattle.chol_factor.proofs.columns.factor.Given as goal

abbrev pub invariant-loop-row : goal.invariant-loop-row
invariant-loop-row l = record {
  same : l.square.size ≡ l.fn.midpoints.size;
  small : AllAtMost (2 ^ 61) l.square.numbers;
  made : HasColumns l.fn.midpoints.size (square_at l.fn.midpoints) (square_at l.square) l.row;
  waiting : IsWaiting l.fn.midpoints.size (square_at l.fn.midpoints) (square_at l.square) l.row;
}
