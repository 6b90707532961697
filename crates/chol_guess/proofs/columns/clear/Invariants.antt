use Rattle.std.proofs.Common.{◌≡◌, ◌<◌, ℕ, pos}
use Rattle.whole_numbers.specs.Lists.{at}
use Rattle.chol_guess.proofs.columns.clear.Given as goal

abbrev pub invariant-loop-k : goal.invariant-loop-k
invariant-loop-k l = (k : ℕ) → k < l.k → at l.u k ≡ pos 0
