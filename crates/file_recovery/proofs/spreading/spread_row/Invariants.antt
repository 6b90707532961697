use Rattle.std.proofs.Common.{◌≡◌, ◌≤◌, ◌<◌, ℕ, length}
use Rattle.sym_blocks.specs.Tables.{before, entry_at}
use Rattle.file_recovery.specs.Parts.{spread_entry}
use Rattle.file_recovery.proofs.spreading.spread_row.Given as goal

abbrev pub invariant-loop-col : goal.invariant-loop-col
invariant-loop-col g l = record {
  size : l.table.size ≡ l.fn.table.size;
  whole : length l.table.entries ≡ before l.table.size;
  done : (j : ℕ) → j < l.col → entry_at l.table l.row j ≡ spread_entry l.small l.places l.row j;
  others : (i j : ℕ) → i < l.fn.table.size → j ≤ i → (i ≡ l.row → ⊥) → entry_at l.table i j ≡ entry_at l.fn.table i j;
}
