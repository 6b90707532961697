use Rattle.std.proofs.Common.{FitsSigned, arith, rules, sym, ◌∙◌}
use Rattle.std.specs.Int.{w128}
use Rattle.std.proofs.lemmas.Int.{ints, to_z-of_z}
use Rattle.std.proofs.lemmas.Option.{same_Some}
use Rattle.inverse_squares.proofs.TensLaws.{few_tens}
use Rattle.inverse_squares.proofs.AnswerLaws.{answers_above}
use Rattle.inverse_squares.proofs.division.multiplied.Goals as goal

pub ten_to-requires : goal.ten_to-requires
ten_to-requires c =
    let f : FitsSigned w128 c.args.h = c.ranges.h in
    let within = simp to_z-of_z at c.tens_for-tens.ensures.within in
    let t = few_tens c.args.h c.tens_for-tens.result (λ e. omega (arith, ints)) within in
    omega (arith, t)

pub returns : goal.returns
returns c =
    let h : FitsSigned w128 c.args.h = c.ranges.h in
    let d : FitsSigned w128 c.args.den = c.ranges.den in
    let t : FitsSigned w128 c.ten_to.result = search rules in
    let x : FitsSigned w128 c.product.result = search rules in
    let are = simp to_z-of_z at c.tens_for-tens.ensures in
    let product = simp to_z-of_z at c.product.ensures in
    let next = simp to_z-of_z at c.next_to.ensures in
    let whole = same_Some _ _ (sym c.in_ok-whole.was ∙ next) in
    answers_above c.args.h c.args.den _ c.product.result c.ten_to.result c.args.power c.tens_for-tens.result c.in_ok-whole.whole c.scale10.result are c.ten_to.ensures product whole c.scale10.ensures (omega (arith, ints))
