use Rattle.std.proofs.Common.{arith}
use Rattle.chol_guess.proofs.midpoints.midpoint_square.Goals as goal

pub loop-i-init : goal.loop-i-init
loop-i-init g c = record {
  same = omega (arith, c.in_ok-square.ensures.size);
  small = λ k h. omega (arith, c.in_ok-square.ensures.zeros k h);
  rows = λ i k row column. absurd (omega arith);
}
