-- The interval over a square holds the exact value.
use Rattle.std.proofs.Common.{◌≡◌, ◌≢◌, ℕ, ℤ, pos, negsuc, suc, ◌*ℤ◌, ◌+◌, ◌-◌, ◌*◌, ◌≤◌, ◌<◌, ◌^◌, unsigned_abs, ap, sym, ◌∙◌, subst, arith}
use Rattle.std.proofs.lemmas.Int.{ints}
use Rattle.std.proofs.lemmas.Nat.{pow-add}
use Rattle.std.proofs.Math.Nat.{mul-pos}
use Rattle.whole_numbers.specs.Intervals.{Interval, Holds}
use Rattle.whole_numbers.specs.Scaling.{ten_above, ten_below}
use Rattle.whole_numbers.proofs.IntervalLaws.{floor_over_le, le-ceil_over}
use Rattle.whole_numbers.proofs.Powers.{ten_pow_above}
use Rattle.whole_numbers.proofs.Ring.{*ℤ_assoc}
use Rattle.whole_numbers.proofs.Scaled.{holds_raised}
use Rattle.inverse_squares.specs.Quotients.{quotient, IsTimesTens, square, power_left, OverSquareHolds}
use Rattle.inverse_squares.proofs.Alone.{split}

pub quotient_holds : (x : ℤ) (m : ℕ) → 0 < m → Holds (quotient x m) x m
quotient_holds x m some = record { above = floor_over_le x m some; below = le-ceil_over x m some }

tens_together : (h : ℤ) (u tens : ℕ) → tens ≤ u → (h *ℤ pos (10 ^ tens)) *ℤ pos (10 ^ (u - tens)) ≡ h *ℤ pos (10 ^ u)
tens_together h u tens few =
    let e : tens + (u - tens) ≡ u = omega arith in
    let p : 10 ^ tens * 10 ^ (u - tens) ≡ 10 ^ u = sym (pow-add 10 tens (u - tens)) ∙ ap (λ n. 10 ^ n) e in
    *ℤ_assoc h (pos (10 ^ tens)) (pos (10 ^ (u - tens))) ∙ ap (λ n. h *ℤ pos n) p

pub times_tens_holds : (h : ℤ) (d : ℕ) (power : ℤ) (w : Interval) → 0 < d → IsTimesTens h d power w → Holds w (h *ℤ pos (ten_above power)) (d * ten_below power)
times_tens_holds h d (negsuc k) w some is =
    let one : h *ℤ pos 1 ≡ h = omega (arith, ints) in
    subst (λ w. Holds w (h *ℤ pos 1) (d * 10 ^ suc k)) (sym is) (rw one (quotient_holds h (d * 10 ^ suc k) (mul-pos some (ten_pow_above (suc k)))))
times_tens_holds h d (pos u) w some (tens, are, is) =
    let one : d * 1 ≡ d = omega arith in
    let raised = holds_raised (u - tens) (quotient (h *ℤ pos (10 ^ tens)) d) (h *ℤ pos (10 ^ tens)) d (quotient_holds (h *ℤ pos (10 ^ tens)) d some) in
    subst (λ w. Holds w (h *ℤ pos (10 ^ u)) (d * 1)) (sym is) (rw one (subst (λ x. Holds (split h d u tens) x d) (tens_together h u tens are.few) raised))

square_some : (m : ℤ) → m ≢ pos 0 → 0 < unsigned_abs m * unsigned_abs m
square_some m some = let one : 0 < unsigned_abs m = omega (arith, ints) in mul-pos one one

pub over_square_holds : OverSquareHolds
over_square_holds h s z w some is = times_tens_holds h (square s) (power_left s z) w (square_some s.mant some) is
