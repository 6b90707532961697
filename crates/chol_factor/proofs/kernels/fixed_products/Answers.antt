use Rattle.std.proofs.Common.{arith, rules, FitsSigned}
use Rattle.std.specs.Int.{w64}
use Rattle.std.proofs.lemmas.Int.{ints, to_z-of_z}
use Rattle.chol_factor.specs.Factor.{fixed_product}
use Rattle.whole_numbers.specs.Lists.{at}
use Rattle.chol_factor.proofs.SumLaws.{sum_more}
use Rattle.chol_factor.proofs.kernels.fixed_products.Goals as goal

pub loop-k-preserved : goal.loop-k-preserved
loop-k-preserved c =
    let a = c.args.a.now in
    let b = c.args.b.now in
    let k = c.loop-k.k in
    let fa : FitsSigned w64 (at a k) = search rules in
    let fb : FitsSigned w64 (at b k) = search rules in
    let p = simp to_z-of_z at c.fixed_product-sum.ensures.value in
    let s = sum_more k (λ j. fixed_product (at a j) (at b j)) _ c.fixed_product-sum.result c.loop-k.invariant.sum p in
    record { sum = omega (arith, ints, s); bound = omega (arith, ints) }
