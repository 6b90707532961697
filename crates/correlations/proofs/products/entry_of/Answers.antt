use Rattle.std.proofs.Common.{w32, arith}
use Rattle.std.proofs.lemmas.Int.{ints, to_z-of_z}
use Rattle.correlations.proofs.FitLaws.{entry_answer}
use Rattle.correlations.proofs.products.entry_of.Goals as goal

pub returns-in-Some-Some : goal.returns-in-Some-Some
returns-in-Some-Some c =
    entry_answer c.product_of.result c.args.correlation.now c.args.one.now c.args.other.now c.in-Some-Some.s c.in-Some-Some.t c.args.power _ c.in-Some-Some.is-0 c.in-Some-Some.is-1 (to_z-of_z w32 c.args.power (omega (arith, ints, c.requires.low, c.requires.high))) c.product_of.ensures
