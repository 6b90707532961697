use Rattle.std.proofs.Common.{◌≤◌, ◌<◌, ◌-◌, ℕ, false}
use Rattle.whole_numbers.proofs.least.least_passed.Given as goal

abbrev pub invariant-loop-k : goal.invariant-loop-k
invariant-loop-k g l = record { few : l.k ≤ l.most; before : (j : ℕ) → j < l.k → goal.F-post g l.test j false }

abbrev pub decreases-loop-k : goal.decreases-loop-k
decreases-loop-k g l = l.most - l.k
