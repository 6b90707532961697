use Rattle.std.proofs.Common.{◌≡◌, ◌+◌, ◌-◌, ◌^◌, ◌≤◌, ◌<◌, ℕ, nat_lt, false}
use Rattle.bounds_report.proofs.rounding.digits_beyond.Given as goal

abbrev pub invariant-loop-k : goal.invariant-loop-k
invariant-loop-k l = record { bound : l.k ≤ 23; below : (j : ℕ) → j < l.k → nat_lt l.size (10 ^ (15 + j)) ≡ false }

abbrev pub decreases-loop-k : goal.decreases-loop-k
decreases-loop-k l = 23 - l.k
