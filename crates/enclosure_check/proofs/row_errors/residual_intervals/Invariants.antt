use Rattle.std.proofs.Common.{◌≡◌, ◌≤◌, ◌<◌, ◌^◌, ℕ}
use Rattle.std.specs.Vec.{vec_len}
use Rattle.whole_numbers.specs.Intervals.{size}
use Rattle.sys_model.specs.Systems.{residual_interval}
use Rattle.whole_numbers.specs.Lists.{at}
use Rattle.equil.specs.Tables.{table_of}
use Rattle.enclosure_check.specs.ErrorParts.{nth_entry}
use Rattle.enclosure_check.proofs.row_errors.residual_intervals.Given as goal

abbrev pub invariant-loop-i : goal.invariant-loop-i
invariant-loop-i g l = record {
  len : vec_len l.entries ≡ l.i;
  each : (k : ℕ) → k < l.i → nth_entry l.entries.items k ≡ residual_interval l.rows.table.now.size (table_of l.rows.table.now l.d) (at l.y) k;
  small : (k : ℕ) → k < l.i → size (nth_entry l.entries.items k) ≤ 2 ^ 126;
}
