use Rattle.std.proofs.Common.{◌≡◌, ◌^◌}
use Rattle.whole_numbers.specs.Lists.{AllAtMost}
use Rattle.chol_guess.specs.Midpoints.{HasRows}
use Rattle.chol_guess.proofs.midpoints.midpoint_square.Given as goal

abbrev pub invariant-loop-i : goal.invariant-loop-i
invariant-loop-i g l = record {
  same : l.square.size ≡ l.w.a.size;
  small : AllAtMost (2 ^ 61) l.square.numbers;
  rows : HasRows l.i l.w.a l.square;
}
