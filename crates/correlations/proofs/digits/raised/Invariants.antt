use Rattle.std.proofs.Common.{◌-◌, ◌≡◌, ◌≤◌, ◌<◌, ◌^◌, ◌*◌}
use Rattle.correlations.proofs.digits.raised.Given as goal

abbrev pub invariant-loop-mantissa : goal.invariant-loop-mantissa
invariant-loop-mantissa l = record { whole : l.mantissa ≡ l.number * 10 ^ l.zeros; few : l.mantissa < 10 ^ 18; small : l.zeros ≤ 17; some : 0 < l.mantissa }

abbrev pub decreases-loop-mantissa : goal.decreases-loop-mantissa
decreases-loop-mantissa l = 100000000000000000 - l.mantissa
