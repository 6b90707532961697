use Rattle.std.proofs.Common.{arith, ◌+◌, ◌^◌, nat_lt, sym}
use Rattle.whole_numbers.proofs.LeastLaws.{least_below_is}
use Rattle.bounds_report.proofs.RoundingLaws.{digits_last}
use Rattle.bounds_report.proofs.rounding.digits_beyond.Goals as goal

pub returns-else-not-has_15_before-clause-value : goal.returns-else-not-has_15_before-clause-value
returns-else-not-has_15_before-clause-value c =
    sym (least_below_is 40 (λ k. nat_lt c.args.size (10 ^ (15 + k))) c.loop-k.k (omega arith) (sym c.if-not-has_15_before.ensures) c.loop-k.invariant.below)

pub returns-after-loop-k-clause-value : goal.returns-after-loop-k-clause-value
returns-after-loop-k-clause-value c =
    sym (least_below_is 40 (λ k. nat_lt c.args.size (10 ^ (15 + k))) c.loop-k.k (omega arith) (digits_last c.args.size c.loop-k.k c.requires (omega arith) c.loop-k.invariant.bound) c.loop-k.invariant.below)
