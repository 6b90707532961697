use Rattle.std.proofs.Common.{FitsSigned, arith}
use Rattle.std.specs.Int.{w128}
use Rattle.std.proofs.lemmas.Int.{ints, to_z-of_z}
use Rattle.inverse_squares.proofs.AnswerLaws.{answers_below}
use Rattle.inverse_squares.proofs.division.times_tens.Goals as goal

pub returns-then-power-lt0 : goal.returns-then-power-lt0
returns-then-power-lt0 c =
    let h : FitsSigned w128 c.args.h = c.ranges.h in
    let d : FitsSigned w128 c.args.den = c.ranges.den in
    let e = simp to_z-of_z at c.divided.ensures in
    answers_below c.args.h c.args.den c.args.power _ c.divided.result c.requires.some c.requires.few (omega (arith, ints)) e (omega (arith, ints))
