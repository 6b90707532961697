use Rattle.std.proofs.Common.{◌≡◌, pos, ◌+ℤ◌, ◌^◌, arith, sym}
use Rattle.std.specs.Int.{w128, cast_signed, cast_unsigned}
use Rattle.std.proofs.lemmas.Int.{ints}
use Rattle.std.proofs.lemmas.Bool.{false≢true}
use Rattle.whole_numbers.specs.Scaling.{floor_scaled, ceil_scaled}
use Rattle.decimal_e.proofs.SizeLaws.{within, at_most, moved, floor_too_large, ceil_too_large}
use Rattle.decimal_e.proofs.dec.Dec.is_modest.Goals as goal

pub returns-in-Some-Some : goal.returns-in-Some-Some
returns-in-Some-Some c =
    let d = c.args.self.now in
    let f : cast_signed w128 (cast_unsigned w128 c.in-Some-Some.floor) ≡ floor_scaled d.mant (d.exp +ℤ pos 0) = omega (arith, ints, c.in-Some-Some.ensures) in
    let g : cast_signed w128 (cast_unsigned w128 c.in-Some-Some.ceil) ≡ ceil_scaled d.mant (d.exp +ℤ pos 0) = omega (arith, ints, c.in-Some-Some.ensures') in
    (λ e. at_most (10 ^ 12) d (moved (10 ^ 12) _ _ _ _ f g (c.lie_within.ensures.0 e)), λ h. c.lie_within.ensures.1 (moved (10 ^ 12) _ _ _ _ (sym f) (sym g) (within (10 ^ 12) d h)))

pub returns-in_default : goal.returns-in_default
returns-in_default c = (λ e. absurd (false≢true e), λ h. absurd (ceil_too_large (10 ^ 12) (10 ^ 37) c.args.self.now (omega arith) c.in_default.ensures' h))

pub returns-in_default-2 : goal.returns-in_default-2
returns-in_default-2 c = (λ e. absurd (false≢true e), λ h. absurd (floor_too_large (10 ^ 12) (10 ^ 37) c.args.self.now (omega arith) (rw c.in_default.is-0 at c.floor_at.ensures) h))
