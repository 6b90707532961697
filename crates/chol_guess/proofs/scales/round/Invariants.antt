use Rattle.std.proofs.Common.{◌≡◌, ◌≤◌, ◌<◌, ◌^◌, ℕ, unsigned_abs}
use Rattle.whole_numbers.specs.Lists.{at}
use Rattle.chol_guess.specs.Pilots.{nearest}
use Rattle.chol_guess.proofs.scales.round.Given as goal

abbrev pub invariant-loop-k : goal.invariant-loop-k
invariant-loop-k l = record {
  done : (j : ℕ) → j < l.k → at l.x j ≡ nearest (at l.fn.x j);
  small : (j : ℕ) → j < l.k → unsigned_abs (at l.x j) ≤ 2 ^ 50;
  rest : (j : ℕ) → l.k ≤ j → at l.x j ≡ at l.fn.x j;
}
