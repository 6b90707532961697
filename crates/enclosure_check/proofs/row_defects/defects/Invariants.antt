use Rattle.std.proofs.Common.{◌≡◌, ◌<◌, ℕ, [], slice_index_or}
use Rattle.std.specs.Vec.{vec_len}
use Rattle.equil.specs.Tables.{table_of}
use Rattle.enclosure_check.specs.Certificates.{parts_of}
use Rattle.enclosure_check.proofs.row_defects.defects.Given as goal

abbrev pub invariant-loop-i : goal.invariant-loop-i
invariant-loop-i g l = record {
  len : vec_len l.defects ≡ l.i;
  each : (k : ℕ) → k < l.i → slice_index_or l.defects.items k 0 ≡ parts_of l.rows.table.now.size (table_of l.rows.table.now []) l.p k;
}
