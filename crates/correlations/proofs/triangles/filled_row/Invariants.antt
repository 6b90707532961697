use Rattle.std.proofs.Common.{◌≡◌, ◌≤◌, ◌<◌, ℕ, length}
use Rattle.stated_order.specs.First.{HoldsBelow}
use Rattle.sym_blocks.specs.Tables.{before, entry_at}
use Rattle.correlations.specs.Parts.{IsEntryAt}
use Rattle.correlations.proofs.triangles.filled_row.Given as goal

abbrev pub invariant-loop-col : goal.invariant-loop-col
invariant-loop-col g l = record {
  size : l.table.size ≡ l.given.size;
  whole : length l.table.entries ≡ before l.table.size;
  others : (k j : ℕ) → k < l.row → j ≤ k → entry_at l.table k j ≡ entry_at l.initial.table k j;
  row : HoldsBelow l.col (λ j. IsEntryAt l.given l.deviations l.exponents l.row j (entry_at l.table l.row j));
}
