use Rattle.std.proofs.Common.{◌≡◌, ◌≤◌, ◌<◌, ◌^◌, ℕ, unsigned_abs}
use Rattle.std.specs.Vec.{vec_len}
use Rattle.whole_numbers.specs.Lists.{at}
use Rattle.equil.specs.Tables.{table_of}
use Rattle.enclosure_check.specs.Vectors.{midpoint_residual}
use Rattle.enclosure_check.proofs.vector.midpoint_residuals.Given as goal

abbrev pub invariant-loop-i : goal.invariant-loop-i
invariant-loop-i g l = record {
  len : vec_len l.numbers ≡ l.i;
  each : (k : ℕ) → k < l.i → at l.numbers.items k ≡ midpoint_residual l.rows.table.now.size (table_of l.rows.table.now l.d) (at l.y) k;
  small : (k : ℕ) → k < l.i → unsigned_abs (at l.numbers.items k) ≤ 2 ^ 126;
}
