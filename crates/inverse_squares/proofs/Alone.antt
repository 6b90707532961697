-- There is one interval over a square.
use Rattle.std.proofs.Common.{ℕ, ℤ, pos, negsuc, suc, ◌*ℤ◌, ◌-◌, ◌*◌, ◌≤◌, ◌^◌, unsigned_abs, refl, ap, sym, ◌∙◌}
use Rattle.stated_order.specs.Steps.{IsOne, HasOne}
use Rattle.whole_numbers.specs.Intervals.{Interval}
use Rattle.whole_numbers.specs.Scaling.{interval_scale10}
use Rattle.inverse_squares.specs.Quotients.{quotient, IsTimesTens, square, power_left, OneOverSquare, OverSquareExists}
use Rattle.inverse_squares.proofs.TensLaws.{one_tens, some_tens}

-- h / d, multiplied by some of u tens before the division and by the others after it
abbrev pub split : ℤ → ℕ → ℕ → ℕ → Interval
split h d u tens = interval_scale10 (quotient (h *ℤ pos (10 ^ tens)) d) (pos (u - tens))

pub one_times_tens : (h : ℤ) (d : ℕ) (power : ℤ) → IsOne (IsTimesTens h d power)
one_times_tens h d (negsuc k) r s a b = a ∙ sym b
one_times_tens h d (pos u) r s a b = a.2 ∙ ap (split h d u) (one_tens h u a.0 b.0 a.1 b.1) ∙ sym b.2

pub one_over_square : OneOverSquare
one_over_square h s z = one_times_tens h (square s) (power_left s z)

pub times_tens_exists : (h : ℤ) (d : ℕ) (power : ℤ) → unsigned_abs h ≤ 10 ^ 37 → HasOne (IsTimesTens h d power)
times_tens_exists h d (negsuc k) few = (quotient h (d * 10 ^ suc k), refl)
times_tens_exists h d (pos u) few = let t = some_tens h u few in (split h d u t.0, (t.0, t.1, refl))

pub over_square_exists : OverSquareExists
over_square_exists h s z few = times_tens_exists h (square s) (power_left s z) few
