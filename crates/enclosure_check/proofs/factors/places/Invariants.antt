use Rattle.std.proofs.Common.{◌≡◌, ◌≤◌, ◌<◌, ◌⊎◌, ℕ, pos}
use Rattle.whole_numbers.specs.Lists.{at}
use Rattle.enclosure_check.proofs.factors.places.Given as goal

abbrev pub invariant-loop-k : goal.invariant-loop-k
invariant-loop-k l = record {
  order : l.first ≤ l.end;
  passed : l.end ≤ l.k;
  zeros : (j : ℕ) → j < l.k → (j < l.first) ⊎ (l.end ≤ j) → at l.numbers j ≡ pos 0;
}
