use Rattle.std.proofs.Common.{◌≡◌, ◌<◌, ◌^◌, ℕ}
use Rattle.std.specs.Vec.{vec_len}
use Rattle.whole_numbers.specs.Quotients.{floor_over}
use Rattle.whole_numbers.specs.Lists.{at}
use Rattle.enclosure_check.proofs.vector.floors.Given as goal

abbrev pub invariant-loop-k : goal.invariant-loop-k
invariant-loop-k l = record {
  len : vec_len l.shifted ≡ l.k;
  each : (j : ℕ) → j < l.k → at l.shifted.items j ≡ floor_over (at l.numbers j) (2 ^ l.h);
}
