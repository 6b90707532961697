use Rattle.std.proofs.Common.{◌≡◌, ◌≤◌, ◌<◌, ℕ, length}
use Rattle.sym_blocks.specs.Tables.{before, entry_at}
use Rattle.equil.specs.Tables.{exponent_of}
use Rattle.inv_enclose.specs.Parts.{column_of, IsKept, scaled_interval}
use Rattle.inv_enclose.proofs.tables.place_column.Given as goal

abbrev pub invariant-loop-row : goal.invariant-loop-row
invariant-loop-row g l = record {
  size : l.table.size ≡ l.initial.table.size;
  whole : length l.table.entries ≡ before l.table.size;
  shown : (i : ℕ) → l.col ≤ i → i < l.row → IsKept (scaled_interval l.shift (exponent_of l.exponents) (column_of l.column) i l.col) (entry_at l.table i l.col);
  others : (i j : ℕ) → i < l.initial.table.size → j < l.col → entry_at l.table i j ≡ entry_at l.initial.table i j;
}
