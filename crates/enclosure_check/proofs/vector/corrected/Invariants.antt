use Rattle.std.proofs.Common.{◌≡◌, ◌≤◌, ◌<◌, ◌^◌, ℕ, unsigned_abs}
use Rattle.std.specs.Vec.{vec_len}
use Rattle.whole_numbers.specs.Sum.{total_to}
use Rattle.whole_numbers.specs.Lists.{at}
use Rattle.enclosure_check.specs.VectorParts.{corrected_at}
use Rattle.enclosure_check.proofs.vector.corrected.Given as goal

abbrev pub invariant-loop-row : goal.invariant-loop-row
invariant-loop-row l = record {
  len : vec_len l.z ≡ l.row;
  each : (k : ℕ) → k < l.row → at l.z.items k ≡ corrected_at l.p l.y l.numbers l.h k;
  total : l.total ≡ total_to l.row (λ k. unsigned_abs (corrected_at l.p l.y l.numbers l.h k));
  small : l.total ≤ 2 ^ 64;
}
