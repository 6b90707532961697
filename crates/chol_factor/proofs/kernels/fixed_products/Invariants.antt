use Rattle.std.proofs.Common.{◌≡◌, ◌≤◌, ◌*◌, ◌^◌, unsigned_abs}
use Rattle.whole_numbers.specs.Sum.{sum_to}
use Rattle.chol_factor.specs.Factor.{fixed_product}
use Rattle.whole_numbers.specs.Lists.{at}
use Rattle.chol_factor.proofs.kernels.fixed_products.Given as goal

abbrev pub invariant-loop-k : goal.invariant-loop-k
invariant-loop-k l = record {
  sum : l.sum ≡ sum_to l.k (λ j. fixed_product (at l.a j) (at l.b j));
  bound : unsigned_abs l.sum ≤ l.k * 2 ^ 62;
}
