use Rattle.std.proofs.Common.{arith, ◌≡◌}
use Rattle.std.proofs.lemmas.Int.{ints, to_z-of_z}
use Rattle.whole_numbers.specs.Intervals.{interval_mul}
use Rattle.whole_numbers.proofs.Products.{interval_mul_exact}
use Rattle.interval_word.proofs.Iv.mul.Goals as goal

pub made-requires : goal.made-requires
made-requires c = omega (arith, ints)

pub returns-clause-value : goal.returns-clause-value
returns-clause-value c = grind (arith, to_z-of_z)

pub returns-clause-exact : goal.returns-clause-exact
returns-clause-exact c =
    let v : c.made.result ≡ interval_mul c.args.self.now c.args.other.now = returns-clause-value c in
    rw v (interval_mul_exact c.args.self.now c.args.other.now (omega (arith, ints)) (omega (arith, ints)))
