-- The interval of zero over a square is zero.
use Rattle.std.proofs.Common.{◌≡◌, ◌∙◌, ◌-◌, ◌*◌, ◌/◌, ◌^◌, ℕ, ℤ, pos, negsuc, suc, refl, sym, ap, subst, arith}
use Rattle.std.proofs.Math.IntN.{zero-*ℤ}
use Rattle.whole_numbers.specs.Intervals.{Interval}
use Rattle.whole_numbers.specs.Scaling.{interval_scale10}
use Rattle.decimal_e.specs.Decimals.{Decimal}
use Rattle.sym_blocks.specs.Tables.{zero_interval}
use Rattle.inverse_squares.specs.Quotients.{quotient, IsTimesTens, IsOverSquare, square, power_left}
use Rattle.inverse_squares.proofs.TensLaws.{some_tens}
use Rattle.inverse_squares.proofs.Alone.{split, one_over_square}

zero_quotient : (m : ℕ) → quotient (pos 0) m ≡ zero_interval
zero_quotient m = let z : 0 / m ≡ 0 = omega arith in rw z refl

zero_split : (d u tens : ℕ) → split (pos 0) d u tens ≡ zero_interval
zero_split d u tens =
    ap (λ x. interval_scale10 (quotient x d) (pos (u - tens))) (zero-*ℤ (pos (10 ^ tens))) ∙ ap (λ w. interval_scale10 w (pos (u - tens))) (zero_quotient d)
    ∙ ap (λ x. (let w : Interval = record { lo = x; hi = x } in w)) (zero-*ℤ (pos (10 ^ (u - tens))))

zero_times : (d : ℕ) (power : ℤ) → IsTimesTens (pos 0) d power zero_interval
zero_times d (negsuc k) = sym (zero_quotient (d * 10 ^ suc k))
zero_times d (pos u) = let t = some_tens (pos 0) u (omega arith) in (t.0, t.1, sym (zero_split d u t.0))

pub zero_over_square : (h : ℤ) (s : Decimal) (z : ℤ) → h ≡ pos 0 → IsOverSquare h s z zero_interval
zero_over_square h s z none = subst (λ x. IsOverSquare x s z zero_interval) (sym none) (zero_times (square s) (power_left s z))

pub only_zero : (h : ℤ) (s : Decimal) (z : ℤ) (w : Interval) → h ≡ pos 0 → IsOverSquare h s z w → w ≡ zero_interval
only_zero h s z w none is = one_over_square h s z w zero_interval is (zero_over_square h s z none)
