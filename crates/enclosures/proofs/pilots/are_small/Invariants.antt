use Rattle.std.proofs.Common.{◌≤◌, ◌<◌, ◌^◌, ℕ, unsigned_abs}
use Rattle.whole_numbers.specs.Lists.{at}
use Rattle.enclosures.proofs.pilots.are_small.Given as goal

abbrev pub invariant-loop-k : goal.invariant-loop-k
invariant-loop-k l = (j : ℕ) → j < l.k → unsigned_abs (at l.entries j) ≤ 2 ^ 50
