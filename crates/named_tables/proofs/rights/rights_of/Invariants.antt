use Rattle.std.proofs.Common.{◌≡◌, ◌<◌, ℕ, length, slice_index_or}
use Rattle.sym_blocks.specs.Tables.{zero_interval}
use Rattle.named_tables.specs.Parts.{StandsFor, right_number, row_power}
use Rattle.named_tables.proofs.rights.rights_of.Given as goal

abbrev pub invariant-loop-place : goal.invariant-loop-place
invariant-loop-place l = record {
  len : length l.right.items ≡ l.place;
  shown : (i : ℕ) → i < l.place → StandsFor (right_number l.weight l.rows i) (row_power l.exponents i) (slice_index_or l.right.items i zero_interval);
}
