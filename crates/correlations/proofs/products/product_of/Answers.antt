use Rattle.std.proofs.Common.{◌≡◌, ◌∙◌, ◌+ℤ◌, to_z, of_z, w32, ap, arith}
use Rattle.std.proofs.lemmas.Int.{ints, to_z-of_z}
use Rattle.correlations.proofs.FitLaws.{product_answer}
use Rattle.correlations.proofs.products.product_of.Goals as goal

pub returns-in-None : goal.returns-in-None
returns-in-None c = λ w fits. c.in-None.ensures fits.m fits.k fits.one

pub returns-in-None-digits_of : goal.returns-in-None-digits_of
returns-in-None-digits_of c = λ w fits. c.in-None-digits_of.ensures fits.n fits.l fits.other

pub returns : goal.returns
returns c =
    let one = c.in-Some.one in
    let other = c.in-Some-digits_of.other in
    let range = c.in-Some.ensures.1 in
    let range' = c.in-Some-digits_of.ensures.1 in
    let sum : to_z w32 (of_z w32 c.power_sum.result) ≡ one.power +ℤ other.power +ℤ c.args.power =
    to_z-of_z w32 c.power_sum.result (omega (arith, ints, c.power_sum.type_inv))
    ∙ c.power_sum.ensures
    ∙ ap (λ k. k +ℤ to_z w32 (of_z w32 other.power) +ℤ to_z w32 (of_z w32 c.args.power)) (to_z-of_z w32 one.power (omega (arith, ints, range.0, range.1)))
    ∙ ap (λ l. one.power +ℤ l +ℤ to_z w32 (of_z w32 c.args.power)) (to_z-of_z w32 other.power (omega (arith, ints, range'.0, range'.1)))
    ∙ ap (λ p. one.power +ℤ other.power +ℤ p) (to_z-of_z w32 c.args.power (omega (arith, ints, c.requires.low, c.requires.high))) in
    product_answer c.both_of.result c.args.correlation.now c.args.s.now c.args.t.now c.args.power (to_z w32 (of_z w32 c.power_sum.result)) one.mantissa other.mantissa one.power other.power (omega (arith, c.mag.ensures, c.if-mag-gt-ONE.false)) c.in-Some.ensures.0 c.in-Some-digits_of.ensures.0 sum c.both_of.ensures
