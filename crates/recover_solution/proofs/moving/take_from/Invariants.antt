use Rattle.std.proofs.Common.{◌≡◌, ◌≤◌, ◌<◌, ℕ, length}
use Rattle.sym_blocks.specs.Tables.{before, entry_at}
use Rattle.recover_solution.specs.Parts.{IsLessAt}
use Rattle.recover_solution.proofs.moving.take_from.Given as goal

abbrev pub invariant-loop-row : goal.invariant-loop-row
invariant-loop-row g l = record {
  size : l.table.size ≡ l.fn.table.size;
  whole : length l.table.entries ≡ before l.table.size;
  done : (i j : ℕ) → i < l.row → j ≤ i → IsLessAt l.removed l.fn.table l.table i j;
  left : (i j : ℕ) → l.row ≤ i → i < l.fn.table.size → j ≤ i → entry_at l.table i j ≡ entry_at l.fn.table i j;
}
