use Rattle.std.proofs.Common.{◌≡◌, ◌<◌, ℕ}
use Rattle.std.specs.Vec.{vec_len}
use Rattle.whole_numbers.specs.Lists.{at}
use Rattle.enclosure_check.proofs.factors.shortened.Given as goal

abbrev pub invariant-loop-k : goal.invariant-loop-k
invariant-loop-k l = record {
  len : vec_len l.short ≡ l.k;
  each : (j : ℕ) → j < l.k → at l.short.items j ≡ at l.numbers j;
}
