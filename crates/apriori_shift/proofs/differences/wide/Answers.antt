use Rattle.std.proofs.Common.{◌≤◌, ◌^◌, subst, sym}
use Rattle.whole_numbers.specs.Intervals.{size}
use Rattle.apriori_shift.proofs.WordLaws.{value_small, value_fits}
use Rattle.apriori_shift.proofs.differences.wide.Goals as goal

pub unreachable-requires : goal.unreachable-requires
unreachable-requires c = c.in-None.ensures (value_fits c.args.value.now c.requires)

pub returns-clause-bound : goal.returns-clause-bound
returns-clause-bound c = subst (λ w. size w ≤ 10 ^ 32) (sym c.in-Some.ensures.1) (value_small c.args.value.now c.requires)
