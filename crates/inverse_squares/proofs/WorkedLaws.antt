-- Quotients worked by hand.
use Rattle.std.proofs.Common.{pos, negsuc, ◌^◌, ◌<◌, refl, subst, arith}
use Rattle.whole_numbers.specs.Intervals.{point_interval, size}
use Rattle.inverse_squares.specs.Quotients.{IsOverSquare}
use Rattle.inverse_squares.specs.Worked.{AreWorked, decimal}
use Rattle.inverse_squares.proofs.Alone.{one_over_square}
use Rattle.inverse_squares.proofs.TensLaws.{no_more}

great_is : IsOverSquare (pos (10 ^ 24)) (decimal (pos 1) (negsuc 8)) (pos 18) (point_interval (pos (10 ^ 60)))
great_is = (13, record { few = omega arith; within = omega arith; most = λ more _ w. no_more (10 ^ 24) 13 more (omega arith) w }, refl)

pub worked : AreWorked
worked = record {
  exact = (10, record { few = omega arith; within = omega arith; most = λ more l _. l }, refl);
  ninth = (0, record { few = omega arith; within = omega arith; most = λ more l _. l }, refl);
  below = (0, record { few = omega arith; within = omega arith; most = λ more l _. l }, refl);
  great = λ w is. subst (λ w. 10 ^ 37 < size w) (one_over_square (pos (10 ^ 24)) (decimal (pos 1) (negsuc 8)) (pos 18) (point_interval (pos (10 ^ 60))) w great_is is) (omega arith);
  split = (37, record { few = omega arith; within = omega arith; most = λ more _ w. no_more 1 37 more (omega arith) w }, refl);
}
