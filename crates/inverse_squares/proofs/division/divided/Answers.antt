use Rattle.std.proofs.Common.{◌*◌, ◌^◌, unsigned_abs, FitsSigned, arith}
use Rattle.std.specs.Int.{w128, w32}
use Rattle.std.proofs.lemmas.Int.{ints, to_z-of_z}
use Rattle.inverse_squares.proofs.QuotientLaws.{raised_some, raised_past}
use Rattle.inverse_squares.proofs.division.divided.Goals as goal

pub next_to-requires : goal.next_to-requires
next_to-requires c = grind (arith, to_z-of_z, raised_some)

pub returns-in-None : goal.returns-in-None
returns-in-None c =
    let h : FitsSigned w128 c.args.h = c.ranges.h in
    let d : FitsSigned w128 c.args.den = c.ranges.den in
    let k : FitsSigned w32 c.args.k = c.ranges.k in
    let past = raised_past c.args.den c.args.k c.requires.tens (simp to_z-of_z at c.in-None.ensures) in
    let next = simp to_z-of_z at c.next_to_small.ensures in
    next (unsigned_abs c.args.den * 10 ^ unsigned_abs c.args.k) (omega (arith, ints, past))
